-- A refusal is the first (`refused_first`), its number is the first in the table of those whose premises fail there (`failure_in_table`, as rows stand in the table's order: `in_table_order`), and a listing is accepted exactly where every premise holds (`accepted_holds`). The walk is taken item by item, a row premise by premise.
use Prim.Native.Nat.{ℕ, suc, ◌+◌, ◌≤◌, ◌<◌}
use native.Mathlib.Omega.{arith}
use Rattle.std.specs.Prelude.{◌≡◌, refl, ◌↔◌, ◌⊎◌, Bool, false, length, eqb}
use Rattle.std.proofs.Math.Path.{sym, ap}
use Rattle.std.proofs.Common.{subst, ◌∙◌, inl, inr, true≢false, eqb-true}
use Rattle.std.proofs.Math.Logic.{⊎_elim}
use mathlib.Core.List.{List, [], ◌∷◌, ◌++◌}
use Rattle.std.proofs.lemmas.Bool.{eqb-false}
use Rattle.choice.specs.Pick.{pick, is_true, is_equal, both, either}
use Rattle.refusals.specs.Refusals.{Verdict, verdict_of}
use Rattle.listing.specs.declared.items.Item.{Item}
use Rattle.listing.specs.declared.items.Item.TheVariants.{Halt, Jmp, Bnz, Load, Store, Compute, ComputeImmediate, Cpush, Cjmp, Label}
use Rattle.listing.specs.Listing.{Field, LabelContext}
use Rattle.rules.specs.Context.{Context, target_of}
use Rattle.rules.specs.Rules.{Premise, ◌unless◌, first_failing, row_of}
use Rattle.checker.specs.declared.blocks.Block.{Block}
use Rattle.checker.specs.declared.blocks.Block.TheVariants.{Start, Closed, Open}
use Rattle.checker.specs.Walk.{accepted, is_label, label_in, free_of, due_row, enter_row, label_row, or_else, premises_of, walk_from}
use Rattle.checker.specs.Refusal.{table_order, place_in, rank, InOrder, Holds, FirstFailure, NoneBelow, State, behind, reached, row_at, AllHold, FirstRefusal}

-- a row all of whose premises hold has no first failure
holds_pass : (row : List Premise) → Holds row → first_failing row ≡ 0
unfolding first_failing
holds_pass [] h = refl
holds_pass (p ∷ ps) h = sym (is_true p.holds _ _ _ h.0 (sym (holds_pass ps h.1)))

-- a number of the table is not 0, so a row in the table's order that has no first failure holds
in_table : (n : ℕ) → rank n < length table_order → n ≡ 0 → ⊥
unfolding place_in table_order pick
in_table n h e = let z : rank 0 < length table_order = subst (λ (k : ℕ). rank k < length table_order) e h in omega arith

passes_hold : (row : List Premise) (last : ℕ) → InOrder last row → first_failing row ≡ 0 → Holds row
unfolding first_failing
passes_hold [] last o e = tt
passes_hold (p ∷ ps) last o e =
    ⊎_elim (λ h. (h.0, passes_hold ps (rank p.number) o.1 h.1)) (λ h. absurd (in_table p.number o.0.1 h.1)) (either p.holds _ _ 0 e)

-- the first failure of a row, taken apart
failure_is_first : (row : List Premise) (number : ℕ) → 0 < number → first_failing row ≡ number → FirstFailure row number
unfolding first_failing
failure_is_first [] number z e = absurd (omega arith)
failure_is_first (p ∷ ps) number z e =
    ⊎_elim
    (λ h.
    let rest : FirstFailure ps number = failure_is_first ps number z h.1 in
    record { held = p ∷ rest.held; others = rest.others; row_is = ap (λ (r : List Premise). p ∷ r) rest.row_is; held_hold = (h.0, rest.held_hold) })
    (λ h. record { held = []; others = ps; row_is = λ i. record { number = h.1 i; holds = h.0 i } ∷ ps; held_hold = tt })
    (either p.holds _ _ number e)

-- behind a premise, no rank of a row in order is smaller; before the first failure no premise fails
ranks_rise : (row : List Premise) (last n : ℕ) → n ≤ last → InOrder last row → NoneBelow n row
ranks_rise [] last n h o = tt
ranks_rise (p ∷ ps) last n h o = (λ e. omega arith, ranks_rise ps (rank p.number) n (omega arith) o.1)

first_of : (held others : List Premise) (number last : ℕ) → Holds held → InOrder last (held ++ (number unless false) ∷ others)
    → NoneBelow (rank number) (held ++ (number unless false) ∷ others)
first_of [] others number last h o = (λ e. omega arith, ranks_rise others (rank number) (rank number) (omega arith) o.1)
first_of (p ∷ ps) others number last h o = (λ e. absurd (true≢false (sym h.0 ∙ e)), first_of ps others number (rank p.number) h.1 o.1)

pub failure_in_table : (row : List Premise) (number : ℕ) → InOrder 0 row → FirstFailure row number → NoneBelow (rank number) row
failure_in_table row number o f =
    subst (NoneBelow (rank number)) (sym f.row_is)
    (first_of f.held f.others number 0 f.held_hold (subst (InOrder 0) f.row_is o))

-- a verdict is that of what follows, or the refusal
or_else_lem : (n at : ℕ) (rest v : Verdict) → or_else n at rest ≡ v → ((n ≡ 0) × (rest ≡ v)) ⊎ ((n ≡ 0 → ⊥) × (verdict_of n at ≡ v))
unfolding or_else
or_else_lem n at rest v e = ⊎_elim (λ h. inl (eqb-true n 0 h.0, h.1)) (λ h. inr (eqb-false n 0 h.0, h.1)) (either (eqb n 0) rest (verdict_of n at) v e)

or_else_accepted : (n at : ℕ) (rest : Verdict) → or_else n at rest ≡ accepted → (n ≡ 0) × (rest ≡ accepted)
or_else_accepted n at rest e = ⊎_elim (λ h. h) (λ h. absurd (h.0 (ap (λ (v : Verdict). v.number) h.1))) (or_else_lem n at rest accepted e)

module _ (◌⊑◌ : ℕ → ℕ → Bool) (◌⊔◌ : ℕ → ℕ → ℕ) (shapes : List (List Field)) (labels : List LabelContext) where
  -- the rows of items in open blocks, of labels, and where a label is due
  row_in_order : (Γ : Context) (i : Item) → InOrder 0 (row_of ◌⊑◌ ◌⊔◌ shapes labels Γ i)
  unfolding row_of place_in table_order pick
  row_in_order Γ Halt = omega arith
  row_in_order Γ (Jmp l) = omega arith
  row_in_order Γ (Bnz rs l) = omega arith
  row_in_order Γ (Load rd rs c) = omega arith
  row_in_order Γ (Store rd c rs) = omega arith
  row_in_order Γ (Compute op rd rs rt) = omega arith
  row_in_order Γ (ComputeImmediate op rd rs i) = omega arith
  row_in_order Γ (Cpush l) = omega arith
  row_in_order Γ (Cjmp l) = omega arith
  row_in_order Γ (Label l) = omega arith

  enter_in_order : (b : Block) (Γ : Context) (free : Bool) (t : LabelContext) → InOrder 0 (label_row ◌⊑◌ ◌⊔◌ b Γ free t)
  unfolding enter_row place_in table_order pick
  enter_in_order Start Γ free t = omega arith
  enter_in_order Closed Γ free t = omega arith
  enter_in_order Open Γ free t = omega arith

  due_in_order : (b : Block) (row : List Premise) → InOrder 0 row → InOrder 0 (due_row b row)
  unfolding due_row place_in table_order pick
  due_in_order Start row o = omega arith
  due_in_order Closed row o = omega arith
  due_in_order Open row o = o

  -- 01's table: an item's premises, and the end's, stand in its order
  pub in_table_order : (s : State) (items : List Item) → InOrder 0 (row_at ◌⊑◌ ◌⊔◌ shapes labels s items)
  unfolding row_at premises_of place_in table_order pick
  in_table_order s [] = omega arith
  in_table_order s (i ∷ is) =
      both (InOrder 0) (is_label i) _ _ (enter_in_order s.block s.context (free_of s.placed (label_in i)) (target_of labels (label_in i)))
      (due_in_order s.block _ (row_in_order s.context i))

  -- the walk from a state on
  abbrev walk_at : State → List Item → ℕ → Verdict
  walk_at s items at = walk_from ◌⊑◌ ◌⊔◌ shapes labels items at s.block s.context s.placed

  -- a walk is accepted exactly where every premise holds
  pub accepted_holds : (items : List Item) (at : ℕ) (s : State)
      → (walk_at s items at ≡ accepted) ↔ (AllHold ◌⊑◌ ◌⊔◌ shapes labels s items × Holds (row_at ◌⊑◌ ◌⊔◌ shapes labels (reached ◌⊑◌ ◌⊔◌ shapes labels s items) []))
  unfolding walk_from or_else reached row_at
  accepted_holds [] at s = (
    λ e. (tt, passes_hold _ 0 (in_table_order s []) (or_else_accepted _ at accepted e).0),
    λ h. sym (is_equal _ 0 accepted accepted (verdict_of _ at) (holds_pass _ h.1) refl),
  )
  accepted_holds (i ∷ is) at s =
      let next : State = behind ◌⊑◌ ◌⊔◌ shapes labels s i in
      let rest = accepted_holds is (at + 1) next in (
        λ e.
            let here = or_else_accepted _ at (walk_at next is (at + 1)) e in
            let later = rest.0 here.1 in
            ((passes_hold _ 0 (in_table_order s (i ∷ is)) here.0, later.0), later.1),
        λ h. sym (is_equal _ 0 accepted _ (verdict_of _ at) (holds_pass _ h.0.0) (sym (rest.1 (h.0.1, h.1)))),
      )

  -- a refusal is the first; its place is counted from where the walk began
  abbrev RefusedFrom : State → List Item → ℕ → ℕ → ℕ → Type 0
  RefusedFrom s items at number place = (k : ℕ) × (place ≡ at + k) × FirstRefusal ◌⊑◌ ◌⊔◌ shapes labels s items number k

  refused_here : (items : List Item) (at : ℕ) (s : State) (number place : ℕ) → 0 < number → verdict_of (first_failing (row_at ◌⊑◌ ◌⊔◌ shapes labels s items)) at ≡ verdict_of number place
      → RefusedFrom s items at number place
  unfolding reached
  refused_here items at s number place z e =
      let at_place : at ≡ place = ap (λ (v : Verdict). v.place) e in (
        0,
        omega arith,
        record { passed = []; left = items; items_are = refl; place_is = refl; passed_hold = tt; fails = failure_is_first _ number z (ap (λ (v : Verdict). v.number) e) },
      )

  refused_later : (i : Item) (is : List Item) (at : ℕ) (s : State) (number place : ℕ) → Holds (row_at ◌⊑◌ ◌⊔◌ shapes labels s (i ∷ is))
      → RefusedFrom (behind ◌⊑◌ ◌⊔◌ shapes labels s i) is (at + 1) number place → RefusedFrom s (i ∷ is) at number place
  unfolding reached row_at
  refused_later i is at s number place h (k, place_is, r) = (
    suc k,
    omega arith,
    record {
      passed = i ∷ r.passed;
      left = r.left;
      items_are = ap (λ (l : List Item). i ∷ l) r.items_are;
      place_is = ap suc r.place_is;
      passed_hold = (h, r.passed_hold);
      fails = r.fails;
    },
  )

  pub refused_first : (items : List Item) (at : ℕ) (s : State) (number place : ℕ) → 0 < number → walk_at s items at ≡ verdict_of number place → RefusedFrom s items at number place
  unfolding walk_from row_at
  refused_first [] at s number place z e =
      ⊎_elim (λ h. let none : 0 ≡ number = ap (λ (v : Verdict). v.number) h.1 in absurd (omega arith)) (λ h. refused_here [] at s number place z h.1)
      (or_else_lem _ at accepted (verdict_of number place) e)
  refused_first (i ∷ is) at s number place z e =
      let next : State = behind ◌⊑◌ ◌⊔◌ shapes labels s i in
      ⊎_elim (λ h. refused_later i is at s number place (passes_hold _ 0 (in_table_order s (i ∷ is)) h.0) (refused_first is (at + 1) next number place z h.1))
      (λ h. refused_here (i ∷ is) at s number place z h.1)
      (or_else_lem _ at (walk_at next is (at + 1)) (verdict_of number place) e)
