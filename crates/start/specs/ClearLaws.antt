-- The tests of the start check are the statements of Meaning: each is clear of a fault exactly where its statement holds.
use Rattle.std.specs.Prelude.{ℕ, zero, suc, ◌+◌, ◌-◌, ◌<◌, ◌≤◌, ◌≡◌, refl, ◌↔◌, Bool, true, false, List, [], ◌∷◌, length, get_or, eqb}
use Rattle.std.proofs.Common.{arith, sym, ap, subst, ◌∙◌, eqb-true, eq-eqb}
use mathlib.Core.Logic.Iff
use Rattle.choice.specs.Pick.{pick, is_true, is_equal, each_way, if_equal, if_less}
use Rattle.listing.specs.Listing.{Field, Register, Each}
use Rattle.refusals.specs.Refusals.{Verdict}
use Rattle.start.specs.Numbers.{BAD_REGISTER}
use Rattle.start.specs.Start.{Row, shape_of, fault_of, passed, unless, or_else, first_of, any_of, is_row, is_block, is_of_kind, BlockWord, word_of, words_from, words_of, word_fault, block_fault, fields_fault, register_fault, registers_fault}
use Rattle.start.specs.Meaning.{row_in, field_of, field_in, Block, Word, Holds, HoldsRegister, GoodWords, GoodRegisters}

-- an answer that is no refusal
abbrev pub Clear : Verdict → Type 0
Clear f = f.number ≡ 0

pub differ : {A : Type 0} → false ≡ true → A
differ e = let z : ◌≡◌ {A = ℕ} 0 1 = cc in absurd (omega arith)

-- a refusal where a test fails, and another behind it
pub pick_clear : (t : Bool) (g : Verdict) (number place : ℕ) → 0 < number → Clear (pick t g (fault_of number place)) ↔ ((t ≡ true) × Clear g)
unfolding pick
pick_clear true g number place h = (λ e. (refl, e), λ p. p.1)
pick_clear false g number place h = (λ e. absurd (omega arith), λ p. differ p.0)

pub unless_clear : (number place : ℕ) (ok : Bool) → 0 < number → Clear (unless number place ok) ↔ (ok ≡ true)
unfolding unless
unless_clear number place ok h = let both = pick_clear ok passed number place h in (λ e. (both.0 e).0, λ e. both.1 (e, refl))

pub else_clear : (f g : Verdict) → Clear (or_else f g) ↔ (Clear f × Clear g)
unfolding or_else
else_clear f g = (
  if_equal (λ (r : Verdict). Clear r → Clear f × Clear g) f.number 0 g f (λ e c. (e, c)) (λ n c. absurd (n c)),
  λ p. ap (λ (r : Verdict). r.number) (sym (is_equal f.number 0 g g f p.0 refl)) ∙ p.1,
)

pub first_clear : {A : Type 0} (f : A → Verdict) (l : List A) → Clear (first_of f l) ↔ Each (λ x. Clear (f x)) l
unfolding first_of
first_clear f [] = (λ e. tt, λ e. refl)
first_clear f (x ∷ l) =
    let both = else_clear (f x) (first_of f l) in
    let rest = first_clear f l in
    (λ e. ((both.0 e).0, rest.0 (both.0 e).1), λ p. both.1 (p.0, rest.1 p.1))

-- an answer that is clear is the passing one
pub else_proper : (f g : Verdict) → (Clear g → g ≡ passed) → Clear (or_else f g) → or_else f g ≡ passed
unfolding or_else
else_proper f g = if_equal (λ (r : Verdict). (Clear g → g ≡ passed) → Clear r → r ≡ passed) f.number 0 g f (λ e p. p) (λ n p c. absurd (n c))

pub first_proper : {A : Type 0} (f : A → Verdict) (l : List A) → Clear (first_of f l) → first_of f l ≡ passed
unfolding first_of
first_proper f [] e = refl
first_proper f (x ∷ l) e = else_proper (f x) (first_of f l) (first_proper f l) e

-- what holds of each element holds by its index
module _ {A : Type 0} (P : A → Type 0) (d : A) where
  pub each_to : (l : List A) → Each P l → (i : ℕ) → i < length l → P (get_or l i d)
  each_to [] e i h = absurd (omega arith)
  each_to (x ∷ l) e zero h = e.0
  each_to (x ∷ l) e (suc i) h = each_to l e.1 i (omega arith)

  pub each_from : (l : List A) → ((i : ℕ) → i < length l → P (get_or l i d)) → Each P l
  each_from [] e = tt
  each_from (x ∷ l) e = (e 0 (omega arith), each_from l (λ i h. e (suc i) (omega arith)))

each_same : {A : Type 0} (P Q : A → Type 0) → ((x : A) → P x ↔ Q x) → (l : List A) → Each P l ↔ Each Q l
each_same P Q s [] = (λ e. tt, λ e. tt)
each_same P Q s (x ∷ l) = (λ e. ((s x).0 e.0, (each_same P Q s l).0 e.1), λ e. ((s x).1 e.0, (each_same P Q s l).1 e.1))

pub clear_each : {A : Type 0} (f : A → Verdict) (Q : A → Type 0) → ((x : A) → Clear (f x) ↔ Q x) → (l : List A) → Clear (first_of f l) ↔ Each Q l
clear_each f Q s l = Iff.trans (first_clear f l) (each_same (λ x. Clear (f x)) Q s l)

-- the base of a block
pub row_is : (a s : ℕ) (r : Row) → (is_row a s r ≡ true) ↔ ((r.base ≡ a) × (r.shape ≡ s))
unfolding is_row
row_is a s r = (
  if_equal (λ (b : Bool). b ≡ true → (r.base ≡ a) × (r.shape ≡ s)) r.base a _ _ (λ e p. (e, eqb-true r.shape s p)) (λ n p. differ p),
  λ p. sym (is_equal r.base a true _ _ p.0 (sym (eq-eqb r.shape s p.1))),
)

block_found : (rows : List Row) (a s : ℕ) → is_block rows a s ≡ true → Block rows a s
unfolding any_of
block_found [] a s = differ
block_found (r ∷ rows) a s =
    each_way (λ (b : Bool). b ≡ true → Block (r ∷ rows) a s) (is_row a s r) true (is_block rows a s)
    (λ e p. let same = (row_is a s r).0 e in record { row = 0; is_a_row = omega arith; base = same.0; shape = same.1 })
    (λ e p. let b = block_found rows a s p in record { row = suc b.row; is_a_row = omega (arith, b.is_a_row); base = b.base; shape = b.shape })

block_there : (rows : List Row) (a s i : ℕ) → i < length rows → (row_in rows i).base ≡ a → (row_in rows i).shape ≡ s → is_block rows a s ≡ true
unfolding any_of
block_there [] a s i h p q = absurd (omega arith)
block_there (r ∷ rows) a s zero h p q = sym (is_true _ _ _ _ ((row_is a s r).1 (p, q)) refl)
block_there (r ∷ rows) a s (suc i) h p q =
    each_way (λ (b : Bool). b ≡ true) (is_row a s r) true (is_block rows a s) (λ e. refl) (λ e. block_there rows a s i (omega arith) p q)

pub block_is : (rows : List Row) (a s : ℕ) → (is_block rows a s ≡ true) ↔ Block rows a s
block_is rows a s = (block_found rows a s, λ b. block_there rows a s b.row b.is_a_row b.base b.shape)

pub kind_is : (rows : List Row) (kind value : ℕ) → (is_of_kind rows kind value ≡ true) ↔ Holds rows kind value
unfolding is_of_kind
kind_is rows kind value = (
  if_equal (λ (b : Bool). b ≡ true → Holds rows kind value) kind 0 _ _ (λ e p h. absurd (omega arith)) (λ n p h. (block_is rows value (kind - 1)).0 p),
  λ t. if_equal (λ (b : Bool). b ≡ true) kind 0 _ _ (λ e. refl)
      (λ n. (block_is rows value (kind - 1)).1 (t (positive n))),
)
  where
    positive : (kind ≡ 0 → ⊥) → 1 ≤ kind
    positive n = if_less (λ (x : ℕ). 1 ≤ kind) kind 1 0 0 (λ h. absurd (n (omega arith))) (λ h. h)

-- 32: the words of a block, by its fields
pub words_length : (a : ℕ) (fields : List Field) → length (words_from a fields) ≡ length fields
unfolding words_from
words_length a [] = refl
words_length a (f ∷ fields) = ap suc (words_length (a + 1) fields)

pub word_at : (a : ℕ) (fields : List Field) (c : ℕ) (d : BlockWord) → c < length fields → get_or (words_from a fields) c d ≡ word_of (a + c) (field_in fields c)
unfolding words_from
word_at a [] c d h = absurd (omega arith)
word_at a (f ∷ fields) zero d h = let here : a ≡ a + 0 = omega arith in ap (λ (n : ℕ). word_of n f) here
word_at a (f ∷ fields) (suc c) d h =
    let there : a + 1 + c ≡ a + suc c = omega arith in
    word_at (a + 1) fields c d (omega arith) ∙ ap (λ (n : ℕ). word_of n (field_in fields c)) there

-- a word that is no field's
abbrev pub no_word : BlockWord
no_word = word_of 0 (field_of 0 0)

module _ (shapes : List (List Field)) (rows : List Row) (heap : List ℕ) where
  -- what a word holds, and what the words of a block hold
  abbrev pub HoldsWord : BlockWord → Type 0
  HoldsWord w = Holds rows w.field.kind (get_or heap w.address 0)

  abbrev pub HoldsRow : Row → Type 0
  HoldsRow r = Each HoldsWord (words_of shapes r)

  pub word_clear : (w : BlockWord) → Clear (word_fault rows heap w) ↔ HoldsWord w
  unfolding word_fault
  word_clear w = Iff.trans (unless_clear _ _ _ (omega arith)) (kind_is rows w.field.kind (get_or heap w.address 0))

  pub block_clear : (r : Row) → Clear (block_fault shapes rows heap r) ↔ HoldsRow r
  unfolding block_fault
  block_clear r = clear_each (word_fault rows heap) HoldsWord word_clear (words_of shapes r)

  fields_clear : Clear (fields_fault shapes rows heap) ↔ Each HoldsRow rows
  unfolding fields_fault
  fields_clear = clear_each (block_fault shapes rows heap) HoldsRow block_clear rows

  -- what the c-th word of a row holds is what a word of Meaning does
  pub held_there : (a kind level : ℕ) (w : Word shapes rows a kind level) → HoldsWord (get_or (words_of shapes (row_in rows w.row)) w.c no_word) → Holds rows kind (get_or heap a 0)
  held_there a kind level w held =
      let r = row_in rows w.row in
      let same : get_or (words_of shapes r) w.c no_word ≡ word_of a (field_of kind level) =
      word_at r.base (shape_of shapes r.shape) w.c no_word w.is_field ∙ (λ i. word_of (w.address i) (w.field i)) in
      subst HoldsWord same held

  pub held_in : (a kind level : ℕ) (w : Word shapes rows a kind level) → HoldsRow (row_in rows w.row) → Holds rows kind (get_or heap a 0)
  held_in a kind level w all =
      let r = row_in rows w.row in
      let is : w.c < length (words_of shapes r) = omega (arith, w.is_field, words_length r.base (shape_of shapes r.shape)) in
      held_there a kind level w (each_to HoldsWord no_word (words_of shapes r) all w.c is)

  -- and the other way round
  unfoldable pub word_there : (i c : ℕ) → i < length rows → c < length (words_of shapes (row_in rows i))
      → let w = get_or (words_of shapes (row_in rows i)) c no_word in Word shapes rows w.address w.field.kind w.field.level
  word_there i c h l =
      let r = row_in rows i in
      let fields = shape_of shapes r.shape in
      let few : c < length fields = omega (arith, words_length r.base fields) in
      let same = word_at r.base fields c no_word few in
      record { row = i; is_a_row = h; c = c; is_field = few; address = ap (λ (w : BlockWord). w.address) (sym same); field = ap (λ (w : BlockWord). w.field) (sym same) }

  pub words_clear : Clear (fields_fault shapes rows heap) ↔ GoodWords shapes rows heap
  words_clear = (
    λ e a kind level w. held_in a kind level w (each_to HoldsRow _ rows (fields_clear.0 e) w.row w.is_a_row),
    λ g. fields_clear.1 (each_from HoldsRow _ rows (λ i h. each_from HoldsWord no_word (words_of shapes (row_in rows i)) (λ c l. g _ _ _ (word_there i c h l)))),
  )

-- 33: r0 and the listed registers
pub register_clear : (rows : List Row) (regs : List ℕ) (r : Register) → Clear (register_fault rows regs r) ↔ HoldsRegister rows regs r
unfolding register_fault
register_clear rows regs r = Iff.trans (unless_clear _ _ _ (omega arith)) (kind_is rows r.kind (get_or regs r.index 0))

pub registers_clear : (rows : List Row) (listed : List Register) (regs : List ℕ) → Clear (registers_fault rows listed regs) ↔ GoodRegisters rows listed regs
unfolding registers_fault
registers_clear rows listed regs =
    let both = else_clear (unless BAD_REGISTER 0 (eqb (get_or regs 0 0) 0)) (first_of (register_fault rows regs) listed) in
    let zero = unless_clear BAD_REGISTER 0 (eqb (get_or regs 0 0) 0) (omega arith) in
    let each = clear_each (register_fault rows regs) (HoldsRegister rows regs) (register_clear rows regs) listed in (
      λ e. record { r0 = eqb-true _ _ (zero.0 (both.0 e).0); each = each.0 (both.0 e).1 },
      λ g. both.1 (zero.1 (eq-eqb _ _ g.r0), each.1 g.each),
    )
