-- The place behind a label, and that a label which is placed once stands just before it and nowhere else.
use Prim.Native.Nat.{ℕ, suc}
use native.Mathlib.Omega.{arith}
use Rattle.std.proofs.Math.Decide.{ℕ_discrete}
use Rattle.std.specs.Prelude.{◌≡◌, Bool, true, ◌⊎◌, length, eqb}
use Rattle.std.proofs.Math.Path.{refl, sym, ap}
use Rattle.std.proofs.Common.{◌∙◌}
use Rattle.std.proofs.Math.Bool.{false, true≢false}
use Rattle.std.proofs.Math.Logic.{inl, inr}
use mathlib.Core.List.{List, [], ◌∷◌, ◌++◌}
use borrow.Author.Tests.{eq-eqb, ne_eqb}
use Rattle.choice.specs.Pick.{pick, is_true, is_false, is_equal, not_equal}
use Rattle.listing.specs.declared.items.Item.{Item}
use Rattle.listing.specs.declared.items.Item.TheVariants.{Label}
use Rattle.rules.specs.Context.{both}
use Rattle.checker.specs.Walk.{is_label, label_in}
use Rattle.checker.specs.PlacedLaws.{Plain, by_label}
use Rattle.checker.specs.Judgement.{placings}
use Rattle.eraser.specs.AddressLaws.{Unplaced}

-- whether an item is label k
abbrev pub is_label_of : ℕ → Item → Bool
is_label_of k i = both (is_label i) (eqb (label_in i) k)

-- the place behind the first item that is label k; past the end where there is none
unfoldable pub target_in : List Item → ℕ → ℕ
target_in [] k = 0
target_in (i ∷ items) k = suc (pick (is_label_of k i) 0 (target_in items k))

module _ (k : ℕ) where
  -- an item that is not label k, and so places no k
  record Other (i : Item) : Type 0 where
    differs : i ≡ Label k → ⊥
    is_not : is_label_of k i ≡ false
    places_none : (P : List Item) → placings k (i ∷ P) ≡ placings k P

  -- label k is, and places it
  own_label : is_label_of k (Label k) ≡ true
  unfolding is_label label_in pick
  own_label = eq-eqb k k refl

  placed_here : (P : List Item) → placings k (Label k ∷ P) ≡ suc (placings k P)
  unfolding placings
  placed_here P = let one : pick {A = ℕ} (eqb k k) 1 0 ≡ 1 = sym (is_equal k k 1 1 0 refl refl) in omega arith

  other_label : (l : ℕ) → (l ≡ k → ⊥) → Other (Label l)
  unfolding is_label label_in pick placings
  other_label l d = record {
    differs = λ e. d (label_injective e);
    is_not = ne_eqb l k d;
    places_none = λ P. let none : pick {A = ℕ} (eqb l k) 1 0 ≡ 0 = sym (not_equal l k 0 1 0 d refl) in omega arith;
  }
    where
      label_injective : {l : ℕ} → Label l ≡ Label k → l ≡ k
      label_injective e = cc

  no_label : (i : Item) → Plain i → Other i
  unfolding is_label
  no_label i p = record {
    differs = λ e. true≢false (ap is_label (sym e) ∙ p.no_label);
    is_not = sym (is_false (is_label i) false _ _ p.no_label refl);
    places_none = p.places_none k;
  }

  -- any item is one or the other
  same_or_other : (i : Item) → (i ≡ Label k) ⊎ Other i
  same_or_other =
      by_label (λ (i : Item). (i ≡ Label k) ⊎ Other i)
      (λ l. elim (ℕ_discrete l k) [ yes e ↦ inl (ap Label e) | no d ↦ inr (other_label l d) ])
      (λ i p. inr (no_label i p))

  -- a row that places it never
  none_unplaced : (P : List Item) → placings k P ≡ 0 → Unplaced k P
  none_unplaced [] e = tt
  none_unplaced (i ∷ P) e =
      elim (same_or_other i) [
        | inl s ↦ let more = ap (λ (x : Item). placings k (x ∷ P)) (sym s) ∙ e in absurd (omega (arith, more, placed_here P))
        | inr d ↦ (d.differs, none_unplaced P (sym (d.places_none P) ∙ e))
      ]

  -- the items before label k and those behind it, where it is not placed again; its target is where the latter begin
  pub record Split (P : List Item) : Type 0 where
    pub front : List Item
    pub behind : List Item
    pub splits : P ≡ front ++ Label k ∷ behind
    pub unplaced : Unplaced k behind
    pub target : target_in P k ≡ suc (length front)

  split_here : (P : List Item) → placings k (Label k ∷ P) ≡ 1 → Split (Label k ∷ P)
  unfolding target_in
  split_here P e = record {
    front = [];
    behind = P;
    splits = refl;
    unplaced = none_unplaced P (omega (arith, placed_here P));
    target = ap suc (sym (is_true (is_label_of k (Label k)) 0 _ _ own_label refl));
  }

  split_later : (i : Item) (P : List Item) → Other i → Split P → Split (i ∷ P)
  unfolding target_in
  split_later i P d s = record {
    front = i ∷ s.front;
    behind = s.behind;
    splits = ap (◌∷◌ i) s.splits;
    unplaced = s.unplaced;
    target = ap suc (sym (is_false (is_label_of k i) _ _ _ d.is_not refl) ∙ s.target);
  }

  -- a label that is placed once
  pub once_splits : (P : List Item) → placings k P ≡ 1 → Split P
  unfolding placings
  once_splits [] e = absurd (omega arith)
  once_splits (i ∷ P) e =
      elim (same_or_other i) [
        | inl s ↦ rw s (split_here P (rw s at e))
        | inr d ↦ split_later i P d (once_splits P (sym (d.places_none P) ∙ e))
      ]
