-- Where the walk stands, as the code holds it, and the walk on from there.
use Rattle.std.specs.Prelude.{ℕ, List}
use Rattle.refusals.specs.Refusals.{Verdict}
use Rattle.levels.specs.Sets.{below_of, join_of}
use Rattle.listing.specs.declared.items.Item.{Item}
use Rattle.listing.specs.Parts.{shapes_in, labels_in}
use Rattle.rules.specs.Rules.{first_failing}
use Rattle.rules.specs.Held.{context_in}
use Rattle.checker.specs.declared.walk.Standing.{Standing}
use Rattle.checker.specs.Walk.{premises_of, walk_from}
use Rattle.checker.specs.Refusal.{State, behind}

abbrev pub state_in : Standing → State
state_in s = record { block = s.block; context = context_in s.held; placed = s.placed }

-- what refuses an item there, first, by its number, and where the walk stands behind one that nothing does
abbrev pub number_due : List ℕ → Standing → Item → ℕ
number_due ns s item = first_failing (premises_of below_of join_of (shapes_in ns) (labels_in ns) s.block (context_in s.held) s.placed item)

abbrev pub state_behind : List ℕ → Standing → Item → State
state_behind ns s item = behind below_of join_of (shapes_in ns) (labels_in ns) (state_in s) item

-- over the items that are left
abbrev pub walk_on : List ℕ → State → ℕ → List Item → Verdict
walk_on ns s place left = walk_from below_of join_of (shapes_in ns) (labels_in ns) left place s.block s.context s.placed
