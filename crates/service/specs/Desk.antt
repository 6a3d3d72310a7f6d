-- 01, the desk call on lent words: packet, items, 35, 30, 34, rows, fields, registers, run. What it answers, and what code and heap hold afterwards, for all inputs.
use Rattle.std.specs.Prelude.{ℕ, ◌%◌, Bool, true, false, List, ◌++◌, length, drop, ltb, eqb}
use Rattle.choice.specs.Pick.{pick}
use Rattle.machine.specs.Numbers.{BAD_SIZE, BUDGET_TOO_LARGE, HEAP_WORDS, BUDGET}
use Rattle.machine.specs.Run.{Outcome, run_of}
use Rattle.listing.specs.Packet.{numbers_in}
use Rattle.listing.specs.Parts.{items_in}
use Rattle.refusals.specs.Refusals.{Verdict}
use Rattle.checker.specs.Checked.{Checked, Accepted, Refused, NoRoom}
use Rattle.checker.specs.Check.{check_of}
use Rattle.eraser.specs.Erase.{needed_of, addresses_of, code_of}
use Rattle.start.specs.Start.{fault_of, passed, or_else, start_of}
use Rattle.service.specs.Numbers.{DOES_NOT_FIT, BLOCK_WORDS}

-- 30: a heap and a block table of so many words, and whether buffers of bytes are whole words
unfoldable pub right_sizes : ℕ → ℕ → Bool → Bool
right_sizes heap blocks whole = pick (ltb HEAP_WORDS heap) false (pick (ltb BLOCK_WORDS blocks) false (pick (eqb (blocks % 2) 0) whole false))

-- 35, 30 and 34, by words needed and words of the code buffer, the sizes, and the budget
unfoldable pub sizes_of : ℕ → ℕ → Bool → ℕ → Verdict
sizes_of needed code right budget =
    pick (ltb code needed) (fault_of DOES_NOT_FIT needed)
    (pick right (pick (ltb BUDGET budget) (fault_of BUDGET_TOO_LARGE 0) passed) (fault_of BAD_SIZE 0))

-- the refusals behind the items': sizes, and then the start's
unfoldable pub later_fault : List ℕ → ℕ → Bool → List ℕ → List ℕ → List ℕ → ℕ → Verdict
later_fault ns code whole heap blocks regs budget =
    or_else (sizes_of (needed_of (items_in ns)) code (right_sizes (length heap) (length blocks) whole) budget) (start_of ns heap blocks regs)

-- the erased code of a listing's numbers, and the run over it
unfoldable pub code_for : List ℕ → List ℕ
code_for ns = code_of (addresses_of (items_in ns)) (items_in ns)

abbrev pub ran_of : List ℕ → List ℕ → List ℕ → ℕ → Outcome
ran_of ns heap regs budget = run_of (code_for ns) heap regs budget

-- what the desk answers: a refusal's number or a run's status, the refusal's place, the count of words acted on, and the registers
pub record Service : Type 0 where
  pub number : ℕ
  pub place : ℕ
  pub count : ℕ
  pub regs : List ℕ

-- what a call leaves: its answer, and the words of code and heap
pub record DeskCall : Type 0 where
  pub answer : Service
  pub code : List ℕ
  pub heap : List ℕ

abbrev pub desk_call : Service → List ℕ → List ℕ → DeskCall
desk_call answer code heap = record { answer = answer; code = code; heap = heap }

-- a refusal's number or a status, a place, a count and registers
abbrev pub service_of : ℕ → ℕ → ℕ → List ℕ → Service
service_of number place count regs = record { number = number; place = place; count = count; regs = regs }

-- with a refusal nothing changes: the count is 0 and the registers are the start's
unfoldable pub refused_call : Verdict → List ℕ → List ℕ → List ℕ → DeskCall
refused_call f regs code heap = desk_call (service_of f.number f.place 0 regs) code heap

-- a run leaves its status, count and registers, its heap, and the code in front of the buffer; words past it keep their values
unfoldable pub ran_call : Outcome → List ℕ → List ℕ → DeskCall
ran_call o erased code =
    desk_call (service_of o.machine.state.status 0 o.count o.machine.state.regs) (erased ++ drop (length erased) code) o.machine.heap

-- a listing's numbers, by the first refusal behind the items', whose number is 0 where there is none
unfoldable pub serve_by : Verdict → List ℕ → List ℕ → List ℕ → List ℕ → ℕ → DeskCall
serve_by f ns code heap regs budget = pick (eqb f.number 0) (ran_call (ran_of ns heap regs budget) (code_for ns) code) (refused_call f regs code heap)

-- by what the packet is. check_of is never NoRoom; were it, that would be a refusal
unfoldable pub desk_by : Checked → List ℕ → List ℕ → List ℕ → List ℕ → List ℕ → ℕ → DeskCall
desk_by (Accepted n) ns code heap blocks regs budget = serve_by (later_fault ns (length code) true heap blocks regs budget) ns code heap regs budget
desk_by (Refused k place) ns code heap blocks regs budget = refused_call (fault_of k place) regs code heap
desk_by NoRoom ns code heap blocks regs budget = refused_call (fault_of DOES_NOT_FIT 0) regs code heap

-- the call
unfoldable pub desk_of : List ℕ → List ℕ → List ℕ → List ℕ → List ℕ → ℕ → DeskCall
desk_of packet code heap blocks regs budget = desk_by (check_of packet) (numbers_in packet) code heap blocks regs budget
