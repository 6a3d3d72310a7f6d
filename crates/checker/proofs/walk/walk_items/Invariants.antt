-- `walk_items`: the whole verdict is that of the walk from each item on.
use Prim.Native.Nat.{◌+◌}
use mathlib.Core.Path.{◌≡◌}
use lib.ListN.{length}
use Rattle.levels.specs.Sets.{below_of, join_of}
use Rattle.listing.specs.Parts.{items_in, listing_in}
use Rattle.listing.specs.Rest.{items_left}
use Rattle.checker.specs.Walk.{walk_of}
use Rattle.checker.specs.States.{state_in, walk_on}
use Rattle.checker.proofs.walk.walk_items.Given as goal

abbrev pub invariant-loop-item : goal.invariant-loop-item
invariant-loop-item l =
    (walk_of below_of join_of (listing_in l.listing.numbers.now) ≡ walk_on l.listing.numbers.now (state_in l.standing) l.standing.place (items_left l.item-iterator))
    × (l.standing.place + length (items_left l.item-iterator) ≡ length (items_in l.listing.numbers.now))
