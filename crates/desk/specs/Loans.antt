-- What the functions behind the C border leave in the buffers of a loan, and that these are still the caller's.
use Rattle.std.specs.Prelude.{ℕ, ◌≡◌, length}
use Rattle.desk.specs.declared.loan.Loan.{Loan}
use Rattle.desk.specs.LentCall.{LentCall, lent_call}
use Rattle.desk.specs.Work.{Whole}

-- an answer, and the bytes of the buffers
abbrev pub left_in : ℕ → Loan → LentCall
left_in answer l = lent_call answer l.out.now l.heap.now l.regs.now

-- each buffer that may be written is the one that was lent
abbrev pub SameBuffers : Loan → Loan → Type 0
SameBuffers old new = (new.out.ghost_name ≡ old.out.ghost_name) × (new.heap.ghost_name ≡ old.heap.ghost_name) × (new.regs.ghost_name ≡ old.regs.ghost_name)

-- table and heap are whole words, within the limits, and the registers are sixteen
abbrev pub WholeLoan : Loan → Type 0
WholeLoan l = Whole (length l.table.now) (length l.heap.now) (length l.regs.now)
