-- How the grammar reads the values of a sort. A `Sort` from d on says three things: the numbers of a value in its range are taken; a row that is read to its end begins with the numbers of such a value; and no row begins with those of two. The laws build readings from smaller ones: of a number, of one value behind another, of a value made of others, and of a list behind its length. A refused row never comes to its end, and that gives the ranges.
use Prim.Native.Nat.{ℕ, zero, suc, ◌-◌, ◌<◌}
use native.Mathlib.Omega.{arith}
use Rattle.std.specs.Prelude.{◌≡◌, Bool, true, false, length, ltb, eqb}
use Rattle.std.proofs.Math.Path.{refl}
use Rattle.std.proofs.Common.{sym, ap, subst, ◌∙◌, ltb-true, ltb-false}
use mathlib.Core.List.{List, [], ◌∷◌, ◌++◌, flat_map, append_assoc, head-eq_of_cons-eq, tail-eq_of_cons-eq}
use Rattle.choice.specs.Pick.{pick, is_less, not_less, is_equal, not_equal}
use Rattle.listing.specs.declared.grammar.Wanted.{Wanted}
use Rattle.listing.specs.Due.{Due}
use Rattle.listing.specs.Due.{Next, End, Refused}
use Rattle.listing.specs.Limits.{OUT_OF_RANGE}
use Rattle.listing.specs.Listing.{counted, single, Within, EachAfter}
use Rattle.listing.specs.Grammar.{within_of, below_of, next_of}
use Rattle.listing.specs.Fold.{fold_of}

-- a value at the front of a row that is read to its end
pub record Found {A : Type 0} (numbers : A → List ℕ) (Range : A → Type 0) (after : A → Due) (ns : List ℕ) : Type 0 where
  pub value : A
  pub rest : List ℕ
  pub in_range : Range value
  pub read : ns ≡ numbers value ++ rest
  pub ended : fold_of (after value) rest ≡ End

pub record Sort {A : Type 0} (d : Due) (numbers : A → List ℕ) (Range : A → Type 0) (after : A → Due) : Type 0 where
  pub taken : (a : A) (rest : List ℕ) → Range a → fold_of d (numbers a ++ rest) ≡ fold_of (after a) rest
  pub found : (ns : List ℕ) → fold_of d ns ≡ End → Found numbers Range after ns
  pub alone : (a b : A) (r s : List ℕ) → Range a → Range b → numbers a ++ r ≡ numbers b ++ s → (a ≡ b) × (r ≡ s)

-- what is refused stays refused
pub refused_never_ends : (k : ℕ) (ns : List ℕ) → fold_of (Refused k) ns ≡ End → ⊥
unfolding fold_of
refused_never_ends k [] e = let z : ◌≡◌ {A = ℕ} 0 1 = cc in omega arith
refused_never_ends k (n ∷ ns) e = let z : ◌≡◌ {A = ℕ} 0 1 = cc in omega arith

-- where a choice would refuse and the row is read to its end, it went the other way
not_refused : (t : Bool) (k : ℕ) (d : Due) (ns : List ℕ) → fold_of (pick t (Refused k) d) ns ≡ End → (t ≡ false) × (fold_of d ns ≡ End)
unfolding pick
not_refused true k d ns e = absurd (refused_never_ends k ns e)
not_refused false k d ns e = (refl, e)

pub else_refused : (t : Bool) (k : ℕ) (d : Due) (ns : List ℕ) → fold_of (pick t d (Refused k)) ns ≡ End → (t ≡ true) × (fold_of d ns ≡ End)
unfolding pick
else_refused true k d ns e = (refl, e)
else_refused false k d ns e = absurd (refused_never_ends k ns e)

-- a number that is taken where it is in P, and else refused
pub number_read : (w : Wanted) (P : ℕ → Type 0) (after : ℕ → Due) → ((n : ℕ) → P n → after n ≡ next_of w n)
    → ((n : ℕ) (ns : List ℕ) → fold_of (next_of w n) ns ≡ End → P n) → Sort (Next w) single P after
unfolding fold_of
number_read w P after next range =
    record {
      taken = λ n rest h. ap (λ (d : Due). fold_of d rest) (sym (next n h));
      found = wanted;
      alone = λ a b r s h k same. (head-eq_of_cons-eq same, tail-eq_of_cons-eq same);
    }
  where
    wanted : (ns : List ℕ) → fold_of (Next w) ns ≡ End → Found single P after ns
    wanted [] e = let z : ◌≡◌ {A = ℕ} 0 1 = cc in absurd (omega arith)
    wanted (n ∷ ns) e =
        let h : P n = range n ns e in
        record { value = n; rest = ns; in_range = h; read = refl; ended = ap (λ (d : Due). fold_of d ns) (next n h) ∙ e }

pub within_taken : (low high n : ℕ) (d : Due) → Within low high n → d ≡ within_of n low high d
unfolding within_of
within_taken low high n d h = not_less n low _ _ _ h.0 (not_less high n _ _ _ h.1 refl)

pub within_range : (low high n : ℕ) (d : Due) (ns : List ℕ) → fold_of (within_of n low high d) ns ≡ End → Within low high n
unfolding within_of
within_range low high n d ns e =
    let above = not_refused (ltb n low) OUT_OF_RANGE _ ns e in
    (ltb-false n low above.0, ltb-false high n (not_refused (ltb high n) OUT_OF_RANGE d ns above.1).0)

pub within_read : (w : Wanted) (low high : ℕ) (after : ℕ → Due) → ((n : ℕ) → within_of n low high (after n) ≡ next_of w n) → Sort (Next w) single (Within low high) after
within_read w low high after next =
    number_read w (Within low high) after (λ n h. within_taken low high n (after n) h ∙ next n)
    (λ n ns e. within_range low high n (after n) ns (ap (λ (d : Due). fold_of d ns) (next n) ∙ e))

pub below_read : (w : Wanted) (end : ℕ) (after : Due) → ((n : ℕ) → below_of n end after ≡ next_of w n) → Sort (Next w) single (λ n. n < end) (λ n. after)
unfolding below_of
below_read w end after next =
    number_read w (λ n. n < end) (λ n. after) (λ n h. is_less n end _ _ _ h refl ∙ next n)
    (λ n ns e. ltb-true n end (else_refused (ltb n end) OUT_OF_RANGE after ns (ap (λ (d : Due). fold_of d ns) (next n) ∙ e)).0)

-- no number at all
pub nothing_read : (d : Due) → Sort {A = Unit} d (λ u. []) (λ u. Unit) (λ u. d)
nothing_read d =
    record {
      taken = λ u rest h. refl;
      found = λ ns e. record { value = tt; rest = ns; in_range = tt; read = refl; ended = e };
      alone = λ u v r s h k same. (refl, same);
    }

-- one value behind another
pub in_turn : {A B : Type 0} {d : Due} {f : A → List ℕ} {P : A → Type 0} {between : A → Due} {g : B → List ℕ} {Q : A → B → Type 0} {after : A → B → Due}
    → Sort d f P between → ((a : A) → Sort (between a) g (Q a) (after a))
    → Sort {A = A × B} d (λ p. f p.0 ++ g p.1) (λ p. P p.0 × Q p.0 p.1) (λ p. after p.0 p.1)
in_turn {A} {B} {d} {f} {P} {between} {g} {Q} {after} first second =
    record {
      taken = λ p rest h. rw append_assoc (first.taken p.0 (g p.1 ++ rest) h.0 ∙ (second p.0).taken p.1 rest h.1);
      found = λ ns e.
          let x = first.found ns e in
          let y = (second x.value).found x.rest x.ended in
          record {
            value = (x.value, y.value);
            rest = y.rest;
            in_range = (x.in_range, y.in_range);
            read = x.read ∙ (ap (λ (l : List ℕ). f x.value ++ l) y.read ∙ sym (append_assoc (f x.value) (g y.value) y.rest));
            ended = y.ended;
          };
      alone = λ p q r s h k same.
          let x = first.alone p.0 q.0 (g p.1 ++ r) (g q.1 ++ s) h.0 k.0
          (sym (append_assoc (f p.0) (g p.1) r) ∙ (same ∙ append_assoc (f q.0) (g q.1) s)) in
          let y = (second p.0).alone p.1 q.1 r s h.1 (subst (λ (a : A). Q a q.1) (sym x.0) k.1) x.1 in
          ((λ i. (x.0 i, y.0 i)), y.1);
    }

-- values in Q that are made of those in P, with their numbers
pub made_of : {A B : Type 0} {d : Due} {f : A → List ℕ} {P : A → Type 0} {after : A → Due} {g : B → List ℕ} {Q : B → Type 0} {after' : B → Due} (make : A → B)
    → ((a : A) → P a → Q (make a) × (f a ≡ g (make a)) × (after a ≡ after' (make a))) → ((b : B) → Q b → (a : A) × P a × (make a ≡ b))
    → Sort d f P after → Sort d g Q after'
made_of {A} {B} {d} {f} {P} {after} {g} {Q} {after'} make makes made reading =
    record {
      taken = λ b rest h.
          let x = made b h in
          ap (fold_of d) (sym (numbers x rest)) ∙ (reading.taken x.0 rest x.1 ∙ ap (λ (e : Due). fold_of e rest) ((makes x.0 x.1).2 ∙ ap after' x.2));
      found = λ ns e.
          let x = reading.found ns e in
          let y = makes x.value x.in_range in
          record {
            value = make x.value;
            rest = x.rest;
            in_range = y.0;
            read = x.read ∙ ap (λ (l : List ℕ). l ++ x.rest) y.1;
            ended = subst (λ (c : Due). fold_of c x.rest ≡ End) y.2 x.ended;
          };
      alone = λ b c r s h k same.
          let x = made b h in
          let y = made c k in
          let z = reading.alone x.0 y.0 r s x.1 y.1 (numbers x r ∙ (same ∙ sym (numbers y s))) in
          (sym x.2 ∙ (ap make z.0 ∙ y.2), z.1);
    }
  where
    numbers : {b : B} (x : (a : A) × P a × (make a ≡ b)) (r : List ℕ) → f x.0 ++ r ≡ g b ++ r
    numbers x r = ap (λ (l : List ℕ). l ++ r) ((makes x.0 x.1).1 ∙ ap g x.2)

-- what is due where n elements of a list are still to come and `last` is the index before them
abbrev still_from : (ℕ → ℕ → Wanted) → Due → ℕ → ℕ → Due
still_from element done last n = pick (eqb n 0) done (Next (element last (n - 1)))

-- a list of n elements, by the reading of one
module _ {A : Type 0} (numbers : A → List ℕ) (P : ℕ → A → Type 0) (index : A → ℕ) (element : ℕ → ℕ → Wanted) (done : Due)
    (one : (last n : ℕ) → Sort (Next (element last n)) numbers (P last) (λ a. still_from element done (index a) n)) where
  still_none : (last : ℕ) → done ≡ still_from element done last 0
  still_none last = is_equal 0 0 _ _ _ refl refl

  still_more : (last n : ℕ) → Next (element last n) ≡ still_from element done last (suc n)
  still_more last n = not_equal (suc n) 0 _ _ _ (λ e. omega arith) (ap (λ (i : ℕ). Next (element last i)) (omega arith))

  list_read : (n last : ℕ) → Sort (still_from element done last n) (flat_map numbers) (λ l. (length l ≡ n) × EachAfter P index last l) (λ l. done)
  unfolding flat_map
  list_read zero last = rw (← still_none last) (made_of (λ u. []) (λ u h. ((refl, tt), refl, refl)) empty (nothing_read done))
    where
      empty : (l : List A) → (length l ≡ 0) × EachAfter P index last l → (u : Unit {0}) × Unit {0} × ([] ≡ l)
      empty [] h = (tt, tt, refl)
      empty (a ∷ l) h = absurd (omega arith)
  list_read (suc n) last =
      rw (← still_more last n)
      (made_of (λ p. p.0 ∷ p.1) (λ p h. ((ap suc h.1.0, (h.0, h.1.1)), refl, refl)) parts (in_turn (one last n) (λ a. list_read n (index a))))
    where
      parts : (l : List A) → (length l ≡ suc n) × EachAfter P index last l
          → (p : A × List A) × (P last p.0 × ((length p.1 ≡ n) × EachAfter P index (index p.0) p.1)) × (p.0 ∷ p.1 ≡ l)
      parts [] h = absurd (omega arith)
      parts (a ∷ l) h = ((a, l), (h.1.0, (omega arith, h.1.1)), refl)

-- a list behind its length, on which the rest may depend
pub counted_read : {A : Type 0} (numbers : A → List ℕ) (P : ℕ → ℕ → A → Type 0) (index : A → ℕ) (count : Wanted) (low high : ℕ) (element : ℕ → ℕ → ℕ → Wanted) (done : ℕ → Due)
    → ((n : ℕ) → within_of n low high (still_from (element n) (done n) 0 n) ≡ next_of count n)
    → ((n last i : ℕ) → Sort (Next (element n last i)) numbers (P n last) (λ a. still_from (element n) (done n) (index a) i))
    → Sort (Next count) (counted numbers) (λ l. Within low high (length l) × EachAfter (P (length l)) index 0 l) (λ l. done (length l))
unfolding counted
counted_read numbers P index count low high element done next one =
    made_of (λ p. p.1)
    (λ p h.
    let e = sym h.1.0 in
    (subst (λ (n : ℕ). Within low high n × EachAfter (P n) index 0 p.1) e (h.0, h.1.1), ap (λ (n : ℕ). n ∷ flat_map numbers p.1) e, ap done e))
    (λ l h. ((length l, l), (h.0, (refl, h.1)), refl))
    (in_turn (within_read count low high (λ n. still_from (element n) (done n) 0 n) next) (λ n. list_read numbers (P n) index (element n) (done n) (one n) n 0))
