-- Laws for the code of the start check: one for each way through a loop. The whole answer is that of what is left; `faults`, `bads`, `goods` and `zeros` hold the ways for a search.
use Rattle.std.specs.Prelude.{ℕ, ◌+◌, ◌<◌, ◌≤◌, ◌≡◌, max, Bool, false, Result, Ok, Err, List, length, get_or, drop, ltb, eqb}
use Rattle.std.proofs.Common.{arith, ◌∙◌}
use Rattle.std.proofs.Math.Path.{refl, sym, ap}
use Rattle.std.proofs.Math.Bool.{true}
use Rattle.std.proofs.lemmas.List.{drop_all}
use Rattle.choice.specs.Pick.{pick, is_true, is_false, is_equal, not_equal, is_less, not_less, if_less}
use Rattle.refusals.specs.declared.Fault.{Fault}
use Rattle.refusals.specs.declared.Refusal.{Refusal}
use Rattle.refusals.specs.declared.Refusal.TheVariants.{BadRow, BadRegister}
use Rattle.refusals.specs.Refusals.{number_of, Verdict, verdict_in}
use Rattle.refusals.specs.RefusalLaws.{some_number}
use Rattle.listing.specs.Listing.{Field, Register}
use Rattle.listing.specs.Limits.{SHAPES}
use Rattle.listing.specs.Parts.{count_at, field_at, shapes_in}
use Rattle.listing.specs.PartLaws.{parts_length}
use Rattle.start.specs.Numbers.{BAD_ROW, BAD_REGISTER}
use Rattle.start.specs.Start.{Row, shape_of, size_of, fault_of, passed, unless, or_else, first_of, good_row, least_after, rows_from, register_fault, registers_fault}
use Rattle.start.specs.PartLaws.{fields_in, shapes_counted}
use Rattle.start.specs.PairLaws.{row_of, Stands}

-- the first of two verdicts: the first passes, or is a fault
module _ (f g : Verdict) where
  pub first_passes : (r : Verdict) → passed ≡ f → r ≡ g → r ≡ or_else f g
  unfolding or_else
  first_passes r e = is_equal f.number 0 r g f (ap (λ (y : Verdict). y.number) (sym e))

  pub first_stands : (e : Fault) → verdict_in (Err e) ≡ f → verdict_in (Err e) ≡ or_else f g
  unfolding or_else
  first_stands e p = not_equal f.number 0 (verdict_in (Err e)) g f (λ z. some_number e.refusal (sym (ap (λ (y : Verdict). y.number) p ∙ z))) p

pub ruleset orders = (first_passes, first_stands)

-- a search for the first fault
module _ {A : Type 0} (f : A → Verdict) (whole : Verdict) (l : List A) (i : ℕ) (inv : whole ≡ first_of f (drop i l)) where
  pub fault_turn : (x : A) → Stands l i x → passed ≡ f x → whole ≡ first_of f (drop (i + 1) l)
  unfolding first_of
  fault_turn x s p = inv ∙ ap (first_of f) s.split ∙ sym (first_passes (f x) _ _ p refl)

  pub fault_found : (x : A) → Stands l i x → (e : Fault) → verdict_in (Err e) ≡ f x → verdict_in (Err e) ≡ whole
  unfolding first_of
  fault_found x s e p = sym (inv ∙ ap (first_of f) s.split ∙ sym (first_stands (f x) _ e p))

  pub fault_none : length l ≤ i → passed ≡ whole
  unfolding first_of
  fault_none h = sym (inv ∙ ap (first_of f) (drop_all i l h))

pub ruleset faults = (fault_turn, fault_found, fault_none)

-- a refusal and its place
abbrev pub fault_at : Refusal → ℕ → Fault
fault_at refusal place = record { refusal = refusal; place = place }

-- the answers of a test: the fault where it fails
abbrev pub met : Result (Unit {0}) Fault
met = Ok tt

abbrev pub tested : Bool → Fault → Result (Unit {0}) Fault
tested ok f = pick ok met (Err f)

pub required : (ok : Bool) (f : Fault) (r : Result (Unit {0}) Fault) → r ≡ tested ok f → verdict_in r ≡ unless (number_of f.refusal) f.place ok
unfolding unless pick
required true f r e = ap verdict_in e
required false f r e = ap verdict_in e

test_passes : (ok : Bool) (f : Fault) → met ≡ tested ok f → ok ≡ true
unfolding pick
test_passes true f e = refl
test_passes false f e = cc

test_fails : (ok : Bool) (e f : Fault) → ◌≡◌ {A = Result (Unit {0}) Fault} (Err e) (tested ok f) → (ok ≡ false) × (verdict_in (Err e) ≡ verdict_in (Err f))
unfolding pick
test_fails true e f p = cc
test_fails false e f p = (refl, ap verdict_in p)

-- a search for the first bad row
module _ (shapes : List (List Field)) (words i least : ℕ) (l : List Row) (whole : Verdict) (inv : whole ≡ rows_from shapes words i least (drop i l)) where
  module _ (r : Row) (s : Stands l i r) (b : Bool) (e : b ≡ good_row shapes words least r) where
    pub row_turn : met ≡ tested b (fault_at BadRow i) → (after : ℕ) → after ≡ least_after shapes r → whole ≡ rows_from shapes words (i + 1) after (drop (i + 1) l)
    unfolding rows_from
    row_turn p after q =
        inv
        ∙ ap (rows_from shapes words i least) s.split
        ∙ sym (is_true (good_row shapes words least r) _ _ (fault_of BAD_ROW i) (sym e ∙ test_passes b _ p) (ap (λ (n : ℕ). rows_from shapes words (i + 1) n (drop (i + 1) l)) q))

    pub row_found : (v : Fault) → ◌≡◌ {A = Result (Unit {0}) Fault} (Err v) (tested b (fault_at BadRow i)) → verdict_in (Err v) ≡ whole
    unfolding rows_from
    row_found v p =
        let fails = test_fails b v _ p in
        sym (inv ∙ ap (rows_from shapes words i least) s.split ∙ sym (is_false (good_row shapes words least r) _ (rows_from shapes words (i + 1) (least_after shapes r) (drop (i + 1) l)) _ (sym e ∙ fails.0) fails.1))

  pub row_none : length l ≤ i → passed ≡ whole
  unfolding rows_from
  row_none h = sym (inv ∙ ap (rows_from shapes words i least) (drop_all i l h))

pub ruleset bads = (row_turn, row_found, row_none)

-- whether a row is good, and the least base that it leaves, by the count of its shape's fields
pub row_low : (shapes : List (List Field)) (words least base s : ℕ) → base < least → false ≡ good_row shapes words least (row_of base s)
unfolding good_row
row_low shapes words least base s h = is_less base least _ _ _ h refl

module _ (ns : List ℕ) (base s at count : ℕ) (fields : shape_of (shapes_in ns) s ≡ fields_in ns at count) where
  size_is : size_of (shapes_in ns) (row_of base s) ≡ count
  size_is = ap length fields ∙ parts_length (field_at ns) (λ p. p + 2) at count

  module _ (words least : ℕ) (high : least ≤ base) where
    pub row_out : words < base + count → false ≡ good_row (shapes_in ns) words least (row_of base s)
    unfolding good_row
    row_out h = not_less base least _ _ _ high (is_less words (base + size_of (shapes_in ns) (row_of base s)) _ _ _ (omega (arith, size_is)) refl)

    pub row_in : (n : ℕ) → base + count ≤ words → n ≡ count_at SHAPES ns 1 → ltb s n ≡ good_row (shapes_in ns) words least (row_of base s)
    unfolding good_row
    row_in n h e = not_less base least _ _ _ high (not_less words (base + size_of (shapes_in ns) (row_of base s)) _ _ _ (omega (arith, size_is)) (ap (ltb s) (shapes_counted ns s n e)))

  one_more : max count 1 ≡ pick (ltb count 1) 1 count
  one_more = if_less (λ (k : ℕ). max count 1 ≡ k) count 1 1 count (λ h. omega arith) (λ h. omega arith)

  pub least_behind : (n : ℕ) → n ≡ max count 1 → base + n ≡ least_after (shapes_in ns) (row_of base s)
  unfolding least_after
  least_behind n e = ap (λ (k : ℕ). base + k) (e ∙ one_more) ∙ ap (λ (k : ℕ). base + pick (ltb k 1) 1 k) (sym size_is)

pub ruleset goods = (row_low, row_out, row_in, least_behind)

-- r0, and then the listed registers
module _ (rows : List Row) (listed : List Register) (regs : List ℕ) (zero : ℕ) (read : zero ≡ get_or regs 0 0) where
  r0_read : (r : Result (Unit {0}) Fault) → r ≡ tested (eqb zero 0) (fault_at BadRegister 0) → verdict_in r ≡ unless BAD_REGISTER 0 (eqb (get_or regs 0 0) 0)
  r0_read r e = required _ _ r e ∙ ap (λ (n : ℕ). unless BAD_REGISTER 0 (eqb n 0)) read

  pub r0_holds : met ≡ tested (eqb zero 0) (fault_at BadRegister 0) → registers_fault rows listed regs ≡ first_of (register_fault rows regs) listed
  unfolding registers_fault
  r0_holds e = sym (first_passes _ _ _ (r0_read _ e) refl)

  pub r0_not : (e : Fault) → ◌≡◌ {A = Result (Unit {0}) Fault} (Err e) (tested (eqb zero 0) (fault_at BadRegister 0)) → verdict_in (Err e) ≡ registers_fault rows listed regs
  unfolding registers_fault
  r0_not e p = first_stands _ _ e (r0_read _ p)

pub ruleset zeros = (r0_holds, r0_not)
