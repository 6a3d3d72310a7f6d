-- vans_desk: the desk call on byte buffers. What it answers, and what code, heap and registers hold afterwards, for all bytes. 35 counts whole words; after it a ragged length is 30.
use Rattle.std.specs.Prelude.{ℕ, ◌+◌, ◌*◌, ◌/◌, ◌%◌, Bool, false, List, ◌++◌, length, drop, eqb}
use Rattle.choice.specs.Pick.{pick}
use Rattle.machine.specs.Run.{Outcome}
use Rattle.listing.specs.Packet.{numbers_in}
use Rattle.listing.specs.Parts.{items_in}
use Rattle.checker.specs.Checked.{Checked, Accepted, Refused, NoRoom}
use Rattle.checker.specs.Check.{check_of}
use Rattle.eraser.specs.Erase.{needed_of}
use Rattle.refusals.specs.Refusals.{Verdict}
use Rattle.start.specs.Start.{fault_of, or_else, start_of}
use Rattle.service.specs.Numbers.{DOES_NOT_FIT}
use Rattle.service.specs.Desk.{right_sizes, sizes_of, code_for, ran_of}
use Rattle.desk.specs.Bytes.{words_of, bytes_of}
use Rattle.desk.specs.Answer.{answer_of}
use Rattle.desk.specs.RunCall.{REGS_BYTES}
use Rattle.desk.specs.LentCall.{LentCall, lent_call}

-- buffers of so many bytes are whole words, and sixteen registers
unfoldable pub whole_of : ℕ → ℕ → ℕ → ℕ → Bool
whole_of code heap blocks regs = pick (eqb (code % 4 + heap % 4 + blocks % 4) 0) (eqb regs REGS_BYTES) false

-- with a refusal nothing changes
unfoldable pub refused_bytes : Verdict → List ℕ → List ℕ → List ℕ → LentCall
refused_bytes f code heap regs = lent_call (answer_of f.number f.place 0) code heap regs

-- a run, in bytes, the code in front of its buffer
unfoldable pub ran_bytes : Outcome → List ℕ → List ℕ → LentCall
ran_bytes o erased code =
    lent_call (answer_of o.machine.state.status 0 o.count) (bytes_of erased ++ drop (length erased * 4) code) (bytes_of o.machine.heap)
    (bytes_of o.machine.state.regs)

-- a listing's numbers over the words h of a heap and r of registers, by the first refusal behind the items'
unfoldable pub serve_bytes : Verdict → List ℕ → List ℕ → List ℕ → List ℕ → List ℕ → List ℕ → ℕ → LentCall
serve_bytes f ns h r code heap regs budget = pick (eqb f.number 0) (ran_bytes (ran_of ns h r budget) (code_for ns) code) (refused_bytes f code heap regs)

-- 35, 30 and 34, by the buffers' bytes
unfoldable pub bytes_size : List ℕ → ℕ → ℕ → ℕ → ℕ → ℕ → Verdict
bytes_size ns code heap blocks regs budget = sizes_of (needed_of (items_in ns)) (code / 4) (right_sizes (heap / 4) (blocks / 4) (whole_of code heap blocks regs)) budget

-- the first refusal behind the items'
unfoldable pub bytes_fault : List ℕ → List ℕ → List ℕ → List ℕ → List ℕ → ℕ → Verdict
bytes_fault ns code heap blocks regs budget =
    or_else (bytes_size ns (length code) (length heap) (length blocks) (length regs) budget) (start_of ns (words_of heap) (words_of blocks) (words_of regs))

-- by what the packet is. check_of is never NoRoom; were it, that would be a refusal
unfoldable pub vans_desk_by : Checked → List ℕ → List ℕ → List ℕ → List ℕ → List ℕ → ℕ → LentCall
vans_desk_by (Accepted n) ns code heap blocks regs budget = serve_bytes (bytes_fault ns code heap blocks regs budget) ns (words_of heap) (words_of regs) code heap regs budget
vans_desk_by (Refused k place) ns code heap blocks regs budget = refused_bytes (fault_of k place) code heap regs
vans_desk_by NoRoom ns code heap blocks regs budget = refused_bytes (fault_of DOES_NOT_FIT 0) code heap regs

-- the call
unfoldable pub vans_desk_of : List ℕ → List ℕ → List ℕ → List ℕ → List ℕ → ℕ → LentCall
vans_desk_of packet code heap blocks regs budget = vans_desk_by (check_of packet) (numbers_in packet) code heap blocks regs budget
