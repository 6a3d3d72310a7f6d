-- What is done over the words of lent buffers, by a number, for the code that makes room for them: 0 runs the code that the table is, any other starts the listing whose numbers are lent, over the block rows that the table is. Rooms decide what a call costs, and no answer.
use Rattle.std.specs.Prelude.{ℕ, ◌*◌, ◌/◌, ◌%◌, ◌≤◌, ◌≡◌, List, eqb, leb}
use Rattle.choice.specs.Pick.{pick}
use Rattle.machine.specs.Numbers.{CODE_WORDS, HEAP_WORDS}
use Rattle.listing.specs.Parts.{items_in}
use Rattle.eraser.specs.Erase.{needed_of}
use Rattle.start.specs.Start.{first_listed, start_of}
use Rattle.start.specs.ListedLaws.{Indexed}
use Rattle.desk.specs.Bytes.{words_of}
use Rattle.desk.specs.RunCall.{REGS_BYTES, RunCall, run_bytes_of}
use Rattle.desk.specs.LentCall.{LentCall, lent_call}
use Rattle.desk.specs.VansDesk.{serve_bytes}

-- the most words of a small table, and of a small heap
abbrev pub SMALL_WORDS : ℕ
SMALL_WORDS = 64

-- the words of the rooms for a table and a heap of so many bytes: the smallest of three pairs that both fit
abbrev pub large_rooms : ℕ → ℕ × ℕ
large_rooms heap = pick (leb heap (CODE_WORDS * 4)) (CODE_WORDS, CODE_WORDS) (CODE_WORDS, HEAP_WORDS)

unfoldable pub rooms_for : ℕ → ℕ → ℕ × ℕ
rooms_for table heap =
    pick (leb table (SMALL_WORDS * 4)) (pick (leb heap (SMALL_WORDS * 4)) (SMALL_WORDS, SMALL_WORDS) (large_rooms heap)) (large_rooms heap)

-- buffers of so many bytes are whole words, within the limits, and sixteen registers
pub record Whole (table heap regs : ℕ) : Type 0 where
  pub table_whole : table % 4 ≡ 0
  pub heap_whole : heap % 4 ≡ 0
  pub table_fits : table / 4 ≤ CODE_WORDS
  pub heap_fits : heap / 4 ≤ HEAP_WORDS
  pub regs_fit : regs ≡ REGS_BYTES

-- so many words are a heap buffer's, within the limit, and the registers are sixteen
pub record Lent (h heap regs : ℕ) : Type 0 where
  pub heap_few : h ≤ HEAP_WORDS
  pub heap_is : heap ≡ h * 4
  pub regs_fit : regs ≡ REGS_BYTES

-- and so many are within the table's limit
pub record Fitting (t h heap regs : ℕ) : Type 0 where
  pub table_few : t ≤ CODE_WORDS
  pub lent : Lent h heap regs

-- a listing's numbers, and a code buffer of so many bytes, that have passed the sizes
pub record Ready (ns : List ℕ) (code : ℕ) : Type 0 where
  pub indexed : Indexed (first_listed ns)
  pub code_fits : needed_of (items_in ns) ≤ code / 4

-- where a listing is started, it is ready
pub record Meant (work : ℕ) (ns : List ℕ) (code : ℕ) : Type 0 where
  pub ready : (work ≡ 0 → ⊥) → Ready ns code

-- the start and the run of a listing that is ready
abbrev pub start_bytes : List ℕ → List ℕ → List ℕ → List ℕ → List ℕ → ℕ → LentCall
start_bytes ns code blocks heap regs budget = serve_bytes (start_of ns (words_of heap) (words_of blocks) (words_of regs)) ns (words_of heap) (words_of regs) code heap regs budget

-- a run, beside a buffer that it leaves as it is
abbrev pub beside_code : List ℕ → RunCall → LentCall
beside_code code r = lent_call r.answer code r.heap r.regs

unfoldable pub work_of : ℕ → List ℕ → List ℕ → List ℕ → List ℕ → List ℕ → ℕ → LentCall
work_of work ns code table heap regs budget =
    pick (eqb work 0) (beside_code code (run_bytes_of table heap regs budget)) (start_bytes ns code table heap regs budget)
