-- The start check's theorems: a start passes exactly where Meaning's statements hold, and a refusal is the first (Refusal). In a passing start each block word belongs to one field of one block, and lies in the heap.
use Rattle.std.specs.Prelude.{ℕ, ◌+◌, ◌<◌, ◌≤◌, ◌≡◌, List, length}
use Rattle.std.proofs.Common.{arith, ap, subst}
use Rattle.listing.specs.Listing.{Field}
use Rattle.listing.specs.Parts.{shapes_in}
use Rattle.refusals.specs.Refusals.{Verdict}
use Rattle.start.specs.Start.{Row, rows_of, shape_of, first_listed, fault_of, passed, start_of}
use Rattle.start.specs.Meaning.{field_of, field_in, Block, Word, GoodRows, Passing}
use Rattle.start.specs.Refusal.{register_in, Refused}
use Rattle.start.specs.RowLaws.{word_inside}
use Rattle.start.specs.RefusalLaws.{start_refused}
use Rattle.start.specs.PassingLaws.{clear_means, means_clear, clear_passes, refused_below, block_word, one_word}

module _ (numbers heap blocks regs : List ℕ) where
  -- a start of a listing's numbers, a heap, a block table and start registers, that is a passing one
  abbrev pub PassingStart : Type 0
  PassingStart = Passing (shapes_in numbers) (first_listed numbers) heap (rows_of blocks) regs

  -- that is refused with a number and a place
  abbrev pub RefusedStart : ℕ → ℕ → Type 0
  RefusedStart = Refused (shapes_in numbers) (first_listed numbers) heap (rows_of blocks) regs

  -- a start that passes is a passing one
  pub passes_means : start_of numbers heap blocks regs ≡ passed → PassingStart
  passes_means e = clear_means _ _ _ _ _ (ap (λ (f : Verdict). f.number) e)

  -- and a passing one passes
  pub means_passes : PassingStart → start_of numbers heap blocks regs ≡ passed
  means_passes p = clear_passes _ _ _ _ _ (means_clear _ _ _ _ _ p)

  -- a refusal is the first
  pub refusal_is_first : (number place : ℕ) → 0 < number → start_of numbers heap blocks regs ≡ fault_of number place → RefusedStart number place
  refusal_is_first number place h e =
      subst (λ (f : Verdict). RefusedStart f.number f.place) e (start_refused _ _ _ _ _ (λ z. omega (arith, ap (λ (f : Verdict). f.number) e)))

  -- its place is below any bound of the rows, the heap and the listed registers
  pub place_below : (number place top : ℕ) → RefusedStart number place → length (rows_of blocks) ≤ top → length heap ≤ top → 0 < top
      → ((n : ℕ) → n < length (first_listed numbers) → (register_in (first_listed numbers) n).index < top) → place < top
  place_below = refused_below (shapes_in numbers) (first_listed numbers) heap (rows_of blocks) regs

-- a field of a block is a word
pub block_fields : (shapes : List (List Field)) (rows : List Row) (a s c kind level : ℕ) → Block rows a s → c < length (shape_of shapes s) → field_in (shape_of shapes s) c ≡ field_of kind level
    → Word shapes rows (a + c) kind level
block_fields = block_word

module _ (shapes : List (List Field)) (words : ℕ) (rows : List Row) (good : GoodRows shapes words rows) where
  -- it lies in the heap
  pub word_in_heap : (a kind level : ℕ) → Word shapes rows a kind level → a < words
  word_in_heap = word_inside shapes words rows good

  -- and belongs to one field of one block
  pub word_is_one : (a k k' l l' : ℕ) → Word shapes rows a k l → Word shapes rows a k' l' → (k ≡ k') × (l ≡ l')
  word_is_one = one_word shapes words rows good
