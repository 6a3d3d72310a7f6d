-- 01, "Erased code and the machine" (block rows) and refusals 31, 32 and 33: whether a heap, a block table and start registers fit a listing. Any numbers have shapes, labels and items (`shapes_in`, `labels_in`, `items_in`), so any start has an answer. Meaning says what a passing start is.
use Rattle.std.specs.Prelude.{ℕ, ◌+◌, ◌-◌, ◌/◌, Bool, true, false, List, [], ◌∷◌, length, get_or, ltb, eqb}
use Rattle.choice.specs.Pick.{pick}
use Rattle.listing.specs.declared.items.Item.{Item}
use Rattle.listing.specs.declared.items.Item.TheVariants.{Halt, Jmp, Bnz, Load, Store, Compute, ComputeImmediate, Cpush, Cjmp, Label}
use Rattle.listing.specs.Listing.{Field, Register, LabelContext}
use Rattle.listing.specs.Parts.{parts_from, shapes_in, labels_in, items_in}
use Rattle.refusals.specs.Refusals.{Verdict}
use Rattle.start.specs.Numbers.{BAD_ROW, BAD_FIELD, BAD_REGISTER}

-- a row of the block table: a base and a shape number, both words
pub record Row : Type 0 where
  pub base : ℕ
  pub shape : ℕ

abbrev pub row_at : List ℕ → ℕ → Row
row_at blocks at = record { base = get_or blocks at 0; shape = get_or blocks (at + 1) 0 }

-- the rows of a table, two words each; a last odd word is no row
unfoldable pub rows_of : List ℕ → List Row
rows_of blocks = parts_from (row_at blocks) (λ p. p + 2) 0 (length blocks / 2)

-- the fields of a shape, none where it does not exist; a block has a word per field
abbrev pub shape_of : List (List Field) → ℕ → List Field
shape_of shapes s = get_or shapes s []

abbrev pub size_of : List (List Field) → Row → ℕ
size_of shapes r = length (shape_of shapes r.shape)

-- a refusal's number and place; 0 and 0 is passed
abbrev pub fault_of : ℕ → ℕ → Verdict
fault_of number place = record { number = number; place = place }

abbrev pub passed : Verdict
passed = fault_of 0 0

-- a refusal unless a test holds; the first of two; the first in a row
unfoldable pub unless : ℕ → ℕ → Bool → Verdict
unless number place ok = pick ok passed (fault_of number place)

unfoldable pub or_else : Verdict → Verdict → Verdict
or_else f g = pick (eqb f.number 0) g f

unfoldable pub first_of : {A : Type 0} → (A → Verdict) → List A → Verdict
first_of f [] = passed
first_of f (x ∷ xs) = or_else (f x) (first_of f xs)

-- 31. A row is good behind good ones where its base is not below the least one that they leave, its block lies in the heap of so many words, and its shape exists
unfoldable pub good_row : List (List Field) → ℕ → ℕ → Row → Bool
good_row shapes words least r =
    pick (ltb r.base least) false
    (pick (ltb words (r.base + size_of shapes r)) false (ltb r.shape (length shapes)))

-- the least base that a row leaves to the next: bases rise strictly, and blocks don't overlap
unfoldable pub least_after : List (List Field) → Row → ℕ
least_after shapes r = r.base + pick (ltb (size_of shapes r) 1) 1 (size_of shapes r)

-- the first bad row, from row i on
unfoldable pub rows_from : List (List Field) → ℕ → ℕ → ℕ → List Row → Verdict
rows_from shapes words i least [] = passed
rows_from shapes words i least (r ∷ rows) =
    pick (good_row shapes words least r) (rows_from shapes words (i + 1) (least_after shapes r) rows) (fault_of BAD_ROW i)

-- some element meets a test
unfoldable pub any_of : {A : Type 0} → (A → Bool) → List A → Bool
any_of t [] = false
any_of t (x ∷ xs) = pick (t x) true (any_of t xs)

-- an address is the base of a block of a shape; a value of a kind is an integer, or such a base
unfoldable pub is_row : ℕ → ℕ → Row → Bool
is_row a s r = pick (eqb r.base a) (eqb r.shape s) false

abbrev pub is_block : List Row → ℕ → ℕ → Bool
is_block rows a s = any_of (is_row a s) rows

unfoldable pub is_of_kind : List Row → ℕ → ℕ → Bool
is_of_kind rows kind value = pick (eqb kind 0) true (is_block rows value (kind - 1))

-- 32. The words of a block, by rising address, each with its field
pub record BlockWord : Type 0 where
  pub address : ℕ
  pub field : Field

abbrev pub word_of : ℕ → Field → BlockWord
word_of address field = record { address = address; field = field }

unfoldable pub words_from : ℕ → List Field → List BlockWord
words_from address [] = []
words_from address (f ∷ fields) = word_of address f ∷ words_from (address + 1) fields

abbrev pub words_of : List (List Field) → Row → List BlockWord
words_of shapes r = words_from r.base (shape_of shapes r.shape)

-- a pointer field holds the base of a block of its shape
unfoldable pub word_fault : List Row → List ℕ → BlockWord → Verdict
word_fault rows heap w = unless BAD_FIELD w.address (is_of_kind rows w.field.kind (get_or heap w.address 0))

unfoldable pub block_fault : List (List Field) → List Row → List ℕ → Row → Verdict
block_fault shapes rows heap r = first_of (word_fault rows heap) (words_of shapes r)

-- 33. The registers that the first label lists, which in a listing stand by rising index; it is the label that item 0 places. None where item 0 is no label, or one that the listing does not have
abbrev pub listed_by : List LabelContext → ℕ → List Register
listed_by labels l = (get_or labels l (record { level = 0; stack = []; registers = [] })).registers

unfoldable pub listed_at : List LabelContext → Item → List Register
listed_at labels Halt = []
listed_at labels (Jmp l) = []
listed_at labels (Bnz rs l) = []
listed_at labels (Load rd rs c) = []
listed_at labels (Store rd c rs) = []
listed_at labels (Compute op rd rs rt) = []
listed_at labels (ComputeImmediate op rd rs i) = []
listed_at labels (Cpush l) = []
listed_at labels (Cjmp l) = []
listed_at labels (Label l) = listed_by labels l

unfoldable pub listed_first : List LabelContext → List Item → List Register
listed_first labels [] = []
listed_first labels (i ∷ items) = listed_at labels i

abbrev pub first_listed : List ℕ → List Register
first_listed numbers = listed_first (labels_in numbers) (items_in numbers)

-- a pointer that it lists is the base of a block of its shape
unfoldable pub register_fault : List Row → List ℕ → Register → Verdict
register_fault rows regs r = unless BAD_REGISTER r.index (is_of_kind rows r.kind (get_or regs r.index 0))

-- the three in order: r0 holds 0, before the listed registers
unfoldable pub rows_fault : List (List Field) → List Row → List ℕ → Verdict
rows_fault shapes rows heap = rows_from shapes (length heap) 0 0 rows

unfoldable pub fields_fault : List (List Field) → List Row → List ℕ → Verdict
fields_fault shapes rows heap = first_of (block_fault shapes rows heap) rows

unfoldable pub registers_fault : List Row → List Register → List ℕ → Verdict
registers_fault rows listed regs = or_else (unless BAD_REGISTER 0 (eqb (get_or regs 0 0) 0)) (first_of (register_fault rows regs) listed)

abbrev pub held_fault : List (List Field) → List Register → List ℕ → List Row → List ℕ → Verdict
held_fault shapes listed heap rows regs = or_else (fields_fault shapes rows heap) (registers_fault rows listed regs)

unfoldable pub start_in : List (List Field) → List Register → List ℕ → List Row → List ℕ → Verdict
start_in shapes listed heap rows regs = or_else (rows_fault shapes rows heap) (held_fault shapes listed heap rows regs)

-- what the start check answers
abbrev pub start_of : List ℕ → List ℕ → List ℕ → List ℕ → Verdict
start_of numbers heap blocks regs = start_in (shapes_in numbers) (first_listed numbers) heap (rows_of blocks) regs
