-- Laws for the code that goes by the kind of an item, where several kinds share an arm.
use Rattle.std.specs.Prelude.{ℕ, ◌≡◌, ◌⊎◌, refl, Bool, false, List}
use Rattle.std.proofs.Common.{arith, sym, ap, ◌∙◌, inl, inr}
use Rattle.choice.specs.Pick.{pick, is_false}
use Rattle.levels.specs.Sets.{below_of, join_of}
use Rattle.listing.specs.declared.items.Item.{Item}
use Rattle.listing.specs.declared.items.Item.TheVariants.{Halt, Jmp, Bnz, Load, Store, Compute, ComputeImmediate, Cpush, Cjmp, Label}
use Rattle.listing.specs.Listing.{Field, LabelContext}
use Rattle.rules.specs.Context.{Context}
use Rattle.rules.specs.Rules.{Premise, first_failing, row_of, after_of}
use Rattle.checker.specs.declared.blocks.Block.{Block}
use Rattle.checker.specs.declared.blocks.Block.TheVariants.{Start, Closed, Open}
use Rattle.checker.specs.Walk.{is_label, placed_after, block_after, due_row, premises_of}
use Rattle.checker.specs.Refusal.{State, behind}

abbrev state_of : Block → Context → List Bool → State
state_of b Γ placed = record { block = b; context = Γ; placed = placed }

-- an item that is none of the labels is no label
pub other : (item : Item) → ((l : ℕ) → item ≡ Label l → ⊥) → is_label item ≡ false
unfolding is_label
other (Label l) h = absurd (h l refl)
other Halt h = refl
other (Jmp l) h = refl
other (Bnz rs l) h = refl
other (Load rd rs c) h = refl
other (Store rd c rs) h = refl
other (Compute op rd rs rt) h = refl
other (ComputeImmediate op rd rs i) h = refl
other (Cpush l) h = refl
other (Cjmp l) h = refl

-- its premises are those of its row, in an open block; what is placed stays
module _ (shapes : List (List Field)) (labels : List LabelContext) (b : Block) (Γ : Context) (placed : List Bool) (item : Item) (plain : is_label item ≡ false) where
  other_row : premises_of below_of join_of shapes labels b Γ placed item ≡ due_row b (row_of below_of join_of shapes labels Γ item)
  unfolding premises_of
  other_row = sym (is_false (is_label item) _ _ _ plain refl)

  pub other_first : (k : ℕ) → k ≡ first_failing (due_row b (row_of below_of join_of shapes labels Γ item)) → k ≡ first_failing (premises_of below_of join_of shapes labels b Γ placed item)
  other_first k e = e ∙ ap first_failing (sym other_row)

  pub other_placed : placed ≡ placed_after placed item
  other_placed = is_false (is_label item) _ _ _ plain refl

  pub other_behind : {b' : Block} {Γ' : Context} → b' ≡ block_after item → Γ' ≡ after_of below_of join_of shapes labels Γ item
      → state_of b' Γ' placed ≡ behind below_of join_of shapes labels (state_of b Γ placed) item
  other_behind p q = λ i. state_of (p i) (q i) (other_placed i)

-- an item that is not refused stands in an open block, and its row holds
pub due_holds : (b : Block) (row : List Premise) → 0 ≡ first_failing (due_row b row) → first_failing row ≡ 0
unfolding due_row first_failing pick
due_holds Start row e = absurd (omega arith)
due_holds Closed row e = absurd (omega arith)
due_holds Open row e = sym e

pub ruleset others = (refl, other_first, due_holds)

-- the items that close their block, and the others
pub closes : (item : Item) → (item ≡ Halt) ⊎ (((l : ℕ) × (item ≡ Jmp l)) ⊎ ((l : ℕ) × (item ≡ Cjmp l))) → Closed ≡ block_after item
unfolding block_after
closes item (inl e) = sym (ap block_after e)
closes item (inr (inl (l, e))) = sym (ap block_after e)
closes item (inr (inr (l, e))) = sym (ap block_after e)

pub stays_open : (item : Item) → (item ≡ Halt → ⊥) → ((l : ℕ) → item ≡ Jmp l → ⊥) → ((l : ℕ) → item ≡ Cjmp l → ⊥) → Open ≡ block_after item
unfolding block_after
stays_open Halt h j c = absurd (h refl)
stays_open (Jmp l) h j c = absurd (j l refl)
stays_open (Cjmp l) h j c = absurd (c l refl)
stays_open (Bnz rs l) h j c = refl
stays_open (Load rd rs f) h j c = refl
stays_open (Store rd f rs) h j c = refl
stays_open (Compute op rd rs rt) h j c = refl
stays_open (ComputeImmediate op rd rs i) h j c = refl
stays_open (Cpush l) h j c = refl
stays_open (Label l) h j c = refl

-- the items behind which the context is the same
pub same_behind : (shapes : List (List Field)) (labels : List LabelContext) (Γ : Context) (item : Item)
    → (item ≡ Halt) ⊎ (((l : ℕ) × (item ≡ Jmp l)) ⊎ (((rd : ℕ) × (f : ℕ) × (rs : ℕ) × (item ≡ Store rd f rs)) ⊎ ((l : ℕ) × (item ≡ Cjmp l))))
    → Γ ≡ after_of below_of join_of shapes labels Γ item
unfolding after_of
same_behind shapes labels Γ item (inl e) = sym (ap (after_of below_of join_of shapes labels Γ) e)
same_behind shapes labels Γ item (inr (inl (l, e))) = sym (ap (after_of below_of join_of shapes labels Γ) e)
same_behind shapes labels Γ item (inr (inr (inl (rd, f, rs, e)))) = sym (ap (after_of below_of join_of shapes labels Γ) e)
same_behind shapes labels Γ item (inr (inr (inr (l, e)))) = sym (ap (after_of below_of join_of shapes labels Γ) e)
