-- A refusal is the first: of two, in a row, and of the rows, whose goodness is asked of a row with those before it.
use Prim.Native.Nat.{ℕ, zero, suc, ◌+◌, ◌<◌}
use native.Mathlib.Omega.{arith}
use Rattle.std.specs.Prelude.{◌≡◌, Bool, length, take, eqb}
use Rattle.std.proofs.Math.Path.{refl, ap, subst}
use Rattle.std.proofs.Common.{sym, ◌∙◌, eqb-true, eq-eqb}
use mathlib.Core.List.{List, [], ◌∷◌}
use Rattle.std.proofs.Math.ListN.{get_or}
use Rattle.choice.specs.Pick.{each_way, if_equal, if_less}
use Rattle.listing.specs.Listing.{Field, Register}
use Rattle.refusals.specs.Refusals.{Verdict}
use Rattle.start.specs.Numbers.{BAD_ROW, BAD_FIELD, BAD_REGISTER}
use Rattle.start.specs.Start.{Row, fault_of, unless, or_else, first_of, good_row, least_after, rows_from, words_of, word_fault, block_fault, fields_fault, register_fault, registers_fault, rows_fault, start_in}
use Rattle.start.specs.Meaning.{row_in, Word, Holds, GoodRows, GoodWords}
use Rattle.start.specs.Refusal.{FirstBadRow, FirstBadWord, FirstBadRegister, register_in, Refused, bad_row, bad_field, bad_r0, bad_register}
use Rattle.start.specs.ClearLaws.{Clear, differ, pick_clear, unless_clear, no_word, HoldsWord, word_clear, block_clear, held_there, held_in, word_there, words_clear, register_clear}
use Rattle.start.specs.RowLaws.{rows_clear, word_before}

abbrev Faulty : Verdict → Type 0
Faulty f = Clear f → ⊥

-- of two answers
else_by : (P : Verdict → Type 0) (f g : Verdict) → (Faulty f → P f) → (Clear f → Faulty g → P g) → Faulty (or_else f g) → P (or_else f g)
unfolding or_else
else_by P f g p q = if_equal (λ (r : Verdict). Faulty r → P r) f.number 0 g f q (λ n. p)

-- a refusal unless a test holds
unless_faulty : (number place : ℕ) (ok : Bool) → Faulty (unless number place ok) → unless number place ok ≡ fault_of number place
unfolding unless
unless_faulty number place ok =
    each_way (λ (r : Verdict). Faulty r → r ≡ fault_of number place) ok _ _ (λ e n. absurd (n refl)) (λ e n. refl)

-- the first in a row
record First {A : Type 0} (f : A → Verdict) (d : A) (l : List A) (r : Verdict) : Type 0 where
  n : ℕ
  inside : n < length l
  front : (j : ℕ) → j < n → Clear (f (get_or l j d))
  fails : Faulty (f (get_or l n d))
  same : r ≡ f (get_or l n d)

module _ {A : Type 0} (f : A → Verdict) (d : A) where
  front_more : (x : A) (l : List A) (n : ℕ) → Clear (f x) → ((j : ℕ) → j < n → Clear (f (get_or l j d))) → (j : ℕ) → j < suc n → Clear (f (get_or (x ∷ l) j d))
  front_more x l n c p zero h = c
  front_more x l n c p (suc j) h = p j (omega arith)

  first_faulty : (l : List A) → Faulty (first_of f l) → First f d l (first_of f l)
  unfolding first_of
  first_faulty [] = λ n. absurd (n refl)
  first_faulty (x ∷ l) =
      else_by (First f d (x ∷ l)) (f x) (first_of f l)
      (λ p. record { n = 0; inside = omega arith; front = λ j h. absurd (omega arith); fails = p; same = refl })
      (λ c p.
      let found = first_faulty l p in
      record { n = suc found.n; inside = omega (arith, found.inside); front = front_more x l found.n c found.front; fails = found.fails; same = found.same })

-- the rows
module _ (shapes : List (List Field)) (words : ℕ) where
  record FirstRow (i least : ℕ) (rows : List Row) (r : Verdict) : Type 0 where
    n : ℕ
    inside : n < length rows
    front : Clear (rows_from shapes words i least (take n rows))
    fails : Faulty (rows_from shapes words i least (take (suc n) rows))
    same : r ≡ fault_of BAD_ROW (i + n)

  rows_faulty : (rows : List Row) (i least : ℕ) → Faulty (rows_from shapes words i least rows) → FirstRow i least rows (rows_from shapes words i least rows)
  unfolding rows_from
  rows_faulty [] i least = λ n. absurd (n refl)
  rows_faulty (r ∷ rows) i least =
      let test = good_row shapes words least r in
      let cut : ℕ → Verdict = λ n. rows_from shapes words (i + 1) (least_after shapes r) (take n rows) in
      each_way (λ (f : Verdict). Faulty f → FirstRow i least (r ∷ rows) f) test _ _
      (λ e c.
      let found = rows_faulty rows (i + 1) (least_after shapes r) c in
      let place : i + 1 + found.n ≡ i + suc found.n = omega arith in
      record {
        n = suc found.n;
        inside = omega (arith, found.inside);
        front = (pick_clear test (cut found.n) BAD_ROW i (omega arith)).1 (e, found.front);
        fails = λ z. found.fails ((pick_clear test (cut (suc found.n)) BAD_ROW i (omega arith)).0 z).1;
        same = found.same ∙ ap (fault_of BAD_ROW) place;
      })
      (λ e c.
      let place : i ≡ i + 0 = omega arith in
      record {
        n = 0;
        inside = omega arith;
        front = refl;
        fails = λ z. differ (sym e ∙ ((pick_clear test (cut 0) BAD_ROW i (omega arith)).0 z).0);
        same = ap (fault_of BAD_ROW) place;
      })

  row_refused : (rows : List Row) → Faulty (rows_from shapes words 0 0 rows) → (i : ℕ) × (rows_from shapes words 0 0 rows ≡ fault_of BAD_ROW i) × FirstBadRow shapes words rows i
  row_refused rows n =
      let found = rows_faulty rows 0 0 n in
      let i = found.n in
      let place : 0 + i ≡ i = omega arith in
      let next : i + 1 ≡ suc i = omega arith in (
        i,
        found.same ∙ ap (fault_of BAD_ROW) place,
        record {
          is_a_row = found.inside;
          front = (rows_clear shapes words (take i rows)).0 found.front;
          fails = λ g. found.fails ((rows_clear shapes words (take (suc i) rows)).1 (subst (λ (k : ℕ). GoodRows shapes words (take k rows)) next g));
        },
      )

-- the words
module _ (shapes : List (List Field)) (rows : List Row) (heap : List ℕ) (words : ℕ) (good : GoodRows shapes words rows) where
  -- those at lower addresses than word c of row n are words of the rows before it, or words before it in the row
  module _ (n c : ℕ) (is_a_row : n < length rows) (is_IsWord : c < length (words_of shapes (row_in rows n)))
      (before : (j : ℕ) → j < n → Clear (block_fault shapes rows heap (row_in rows j)))
      (here : (j : ℕ) → j < c → Clear (word_fault rows heap (get_or (words_of shapes (row_in rows n)) j no_word))) where
    lower_hold : (b k l : ℕ) → b < (get_or (words_of shapes (row_in rows n)) c no_word).address → Word shapes rows b k l → Holds rows k (get_or heap b 0)
    unfolding word_there
    lower_hold b k l h v =
        let w = word_there shapes rows heap n c is_a_row is_IsWord in
        if_less (λ (x : ℕ). Holds rows k (get_or heap b 0)) v.row n 0 0
        (λ first. held_in shapes rows heap b k l v ((block_clear shapes rows heap (row_in rows v.row)).0 (before v.row first)))
        (λ not. if_less (λ (x : ℕ). Holds rows k (get_or heap b 0)) n v.row 0 0
        (λ last. absurd (omega (arith, h, word_before shapes words rows good _ b _ k _ l w v last)))
        (λ not'.
        let same : n ≡ v.row = omega arith in
        let base : (row_in rows n).base ≡ (row_in rows v.row).base = ap (λ (i : ℕ). (row_in rows i).base) same in
        let less : v.c < c = omega (arith, h, w.address, v.address) in
        held_there shapes rows heap b k l v
        (subst (λ (i : ℕ). HoldsWord shapes rows heap (get_or (words_of shapes (row_in rows i)) v.c no_word)) same
        ((word_clear shapes rows heap _).0 (here v.c less)))))

  field_refused : Faulty (fields_fault shapes rows heap) → (a : ℕ) × (fields_fault shapes rows heap ≡ fault_of BAD_FIELD a) × FirstBadWord shapes rows heap a
  unfolding fields_fault block_fault word_fault
  field_refused f =
      let row = first_faulty (block_fault shapes rows heap) _ rows f in
      let l = words_of shapes (row_in rows row.n) in
      let word = first_faulty (word_fault rows heap) no_word l row.fails in
      let w = get_or l word.n no_word in (
        w.address,
        row.same ∙ word.same ∙ unless_faulty BAD_FIELD w.address _ word.fails,
        record {
          kind = w.field.kind;
          level = w.field.level;
          word = word_there shapes rows heap row.n word.n row.inside word.inside;
          front = lower_hold row.n word.n row.inside word.inside row.front word.front;
          fails = λ h. word.fails ((word_clear shapes rows heap w).1 h);
        },
      )

-- the registers
listed_refused : (rows : List Row) (listed : List Register) (regs : List ℕ) → Faulty (first_of (register_fault rows regs) listed)
    → (r : ℕ) × (first_of (register_fault rows regs) listed ≡ fault_of BAD_REGISTER r) × FirstBadRegister rows listed regs r
unfolding register_fault
listed_refused rows listed regs f =
    let found = first_faulty (register_fault rows regs) _ listed f in
    let r = register_in listed found.n in (
      r.index,
      found.same ∙ unless_faulty BAD_REGISTER r.index _ found.fails,
      record {
        n = found.n;
        is_listed = found.inside;
        index = refl;
        front = λ j h. (register_clear rows regs (register_in listed j)).0 (found.front j h);
        fails = λ h. found.fails ((register_clear rows regs r).1 h);
      },
    )

-- all three
module _ (shapes : List (List Field)) (listed : List Register) (heap : List ℕ) (rows : List Row) (regs : List ℕ) where
  abbrev RefusedBy : Verdict → Type 0
  RefusedBy f = Refused shapes listed heap rows regs f.number f.place

  module _ (good : GoodRows shapes (length heap) rows) where
    registers_refused : GoodWords shapes rows heap → Faulty (registers_fault rows listed regs) → RefusedBy (registers_fault rows listed regs)
    unfolding registers_fault
    registers_refused g =
        let zero = unless_clear BAD_REGISTER 0 (eqb (get_or regs 0 0) 0) (omega arith) in
        else_by RefusedBy (unless BAD_REGISTER 0 (eqb (get_or regs 0 0) 0)) (first_of (register_fault rows regs) listed)
        (λ f. subst RefusedBy (sym (unless_faulty BAD_REGISTER 0 _ f)) (bad_r0 refl good g refl (λ z. f (zero.1 (eq-eqb _ _ z)))))
        (λ c f.
        let found = listed_refused rows listed regs f in
        subst RefusedBy (sym found.1) (bad_register refl good g (eqb-true _ _ (zero.0 c)) found.2))

    words_refused : Faulty (or_else (fields_fault shapes rows heap) (registers_fault rows listed regs)) → RefusedBy (or_else (fields_fault shapes rows heap) (registers_fault rows listed regs))
    words_refused =
        else_by RefusedBy (fields_fault shapes rows heap) (registers_fault rows listed regs)
        (λ f. let found = field_refused shapes rows heap (length heap) good f in subst RefusedBy (sym found.1) (bad_field refl good found.2))
        (λ c. registers_refused ((words_clear shapes rows heap).0 c))

  pub start_refused : Faulty (start_in shapes listed heap rows regs) → RefusedBy (start_in shapes listed heap rows regs)
  unfolding start_in rows_fault
  start_refused =
      else_by RefusedBy (rows_fault shapes rows heap) (or_else (fields_fault shapes rows heap) (registers_fault rows listed regs))
      (λ f. let found = row_refused shapes (length heap) rows f in subst RefusedBy (sym found.1) (bad_row refl found.2))
      (λ c. words_refused ((rows_clear shapes (length heap) rows).0 c))
