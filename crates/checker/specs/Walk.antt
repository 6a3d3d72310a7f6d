-- 01, "The typing rules" and "Refusal numbers": the walk down the items. The first premise that fails is the answer, with its item's place; at the end 21 and then 22, with the item count.
use Rattle.std.specs.Prelude.{ℕ, zero, suc, ◌+◌, Bool, true, false, List, [], ◌∷◌, length, get_or, set, replicate, eqb}
use Rattle.choice.specs.Pick.{pick}
use Rattle.refusals.specs.Refusals.{Verdict, verdict_of}
use Rattle.listing.specs.declared.items.Item.{Item}
use Rattle.listing.specs.declared.items.Item.TheVariants.{Halt, Jmp, Bnz, Load, Store, Compute, ComputeImmediate, Cpush, Cjmp, Label}
use Rattle.listing.specs.Limits.{LABELS}
use Rattle.listing.specs.Listing.{Field, LabelContext, Listing}
use Rattle.rules.specs.Numbers.{NO_LABEL, PLACED_TWICE, FIRST_STACK, OPEN_END, NEVER_PLACED}
use Rattle.rules.specs.Context.{Context, context_of, no_registers, target_of}
use Rattle.rules.specs.Rules.{Premise, ◌unless◌, first_failing, jump_row, row_of, after_of}
use Rattle.checker.specs.declared.blocks.Block.{Block}
use Rattle.checker.specs.declared.blocks.Block.TheVariants.{Start, Closed, Open}

-- the verdict of a listing that is accepted
abbrev pub accepted : Verdict
accepted = verdict_of 0 0

-- whether an item is a label, and which
unfoldable pub is_label : Item → Bool
is_label (Label l) = true
is_label Halt = false
is_label (Jmp l) = false
is_label (Bnz rs l) = false
is_label (Load rd rs c) = false
is_label (Store rd c rs) = false
is_label (Compute op rd rs rt) = false
is_label (ComputeImmediate op rd rs i) = false
is_label (Cpush l) = false
is_label (Cjmp l) = false

unfoldable pub label_in : Item → ℕ
label_in (Label l) = l
label_in Halt = 0
label_in (Jmp l) = 0
label_in (Bnz rs l) = 0
label_in (Load rd rs c) = 0
label_in (Store rd c rs) = 0
label_in (Compute op rd rs rt) = 0
label_in (ComputeImmediate op rd rs i) = 0
label_in (Cpush l) = 0
label_in (Cjmp l) = 0

-- a label is free where it is not placed yet
abbrev pub free_of : List Bool → ℕ → Bool
free_of placed l = pick (get_or placed l false) false true

abbrev pub placed_after : List Bool → Item → List Bool
placed_after placed i = pick (is_label i) (set placed (label_in i) true) placed

-- how an item leaves the block: after jmp, cjmp and halt it is closed
unfoldable pub block_after : Item → Block
block_after Halt = Closed
block_after (Jmp l) = Closed
block_after (Cjmp l) = Closed
block_after (Bnz rs l) = Open
block_after (Load rd rs c) = Open
block_after (Store rd c rs) = Open
block_after (Compute op rd rs rt) = Open
block_after (ComputeImmediate op rd rs i) = Open
block_after (Cpush l) = Open
block_after (Label l) = Open

-- an item that is no label stands in an open block
unfoldable pub due_row : Block → List Premise → List Premise
due_row Start row = (NO_LABEL unless false) ∷ []
due_row Closed row = (NO_LABEL unless false) ∷ []
due_row Open row = row

-- whether each of n labels from i on is placed
unfoldable pub all_from : List Bool → ℕ → ℕ → Bool
all_from placed i zero = true
all_from placed i (suc n) = pick (get_or placed i false) (all_from placed (i + 1) n) false

-- the list may not end in an open block
unfoldable pub is_open : Block → Bool
is_open Start = false
is_open Closed = false
is_open Open = true

-- the end of a list that has n labels
abbrev pub end_row : ℕ → Block → List Bool → List Premise
end_row n b placed = (OPEN_END unless pick (is_open b) false true) ∷ (NEVER_PLACED unless all_from placed 0 n) ∷ []

-- the refusal n of the item or end at a place, or what follows where there is none
unfoldable pub or_else : ℕ → ℕ → Verdict → Verdict
or_else n at rest = pick (eqb n 0) rest (verdict_of n at)

module _ (◌⊑◌ : ℕ → ℕ → Bool) (◌⊔◌ : ℕ → ℕ → ℕ) where
  -- a label: the first has an empty stack, and one that is reached from an open block is fallen into
  unfoldable pub enter_row : Block → Context → LabelContext → List Premise
  enter_row Start Γ t = (FIRST_STACK unless eqb (length t.stack) 0) ∷ []
  enter_row Closed Γ t = []
  enter_row Open Γ t = jump_row ◌⊑◌ ◌⊔◌ Γ.level Γ t

  abbrev pub label_row : Block → Context → Bool → LabelContext → List Premise
  label_row b Γ free t = (PLACED_TWICE unless free) ∷ enter_row b Γ t

  module _ (shapes : List (List Field)) (labels : List LabelContext) where
    -- the premises of an item
    unfoldable pub premises_of : Block → Context → List Bool → Item → List Premise
    premises_of b Γ placed i =
        pick (is_label i)
        (label_row b Γ (free_of placed (label_in i)) (target_of labels (label_in i)))
        (due_row b (row_of ◌⊑◌ ◌⊔◌ shapes labels Γ i))

    -- the walk from an item on
    unfoldable pub walk_from : List Item → ℕ → Block → Context → List Bool → Verdict
    walk_from [] at b Γ placed = or_else (first_failing (end_row (length labels) b placed)) at accepted
    walk_from (i ∷ is) at b Γ placed =
        or_else (first_failing (premises_of b Γ placed i)) at (walk_from is (at + 1) (block_after i) (after_of ◌⊑◌ ◌⊔◌ shapes labels Γ i) (placed_after placed i))

  -- the walk of a listing; no label is placed at its start
  unfoldable pub walk_of : Listing → Verdict
  walk_of l = walk_from l.shapes l.labels l.items 0 Start (context_of 0 [] no_registers) (replicate LABELS false)
