-- The work over lent buffers that a value of the code's type `Work` says.
use Rattle.std.specs.Prelude.{ℕ, List, []}
use Rattle.desk.specs.declared.buffers.Work.{Work}
use Rattle.desk.specs.declared.buffers.Work.TheVariants.{Run, Start}
use Rattle.desk.specs.declared.loan.Loan.{Loan}
use Rattle.desk.specs.LentCall.{LentCall}
use Rattle.desk.specs.Work.{Meant, work_of}

-- its number, and the numbers of the listing that it starts
abbrev pub work_number : Work → ℕ
work_number Run = 0
work_number (Start numbers) = 1

abbrev pub numbers_for : Work → List ℕ
numbers_for Run = []
numbers_for (Start numbers) = numbers.now

-- where a listing is started, it is ready for a code buffer of so many bytes
abbrev pub MeantWork : Work → ℕ → Type 0
MeantWork work code = Meant (work_number work) (numbers_for work) code

-- what it makes of a loan
abbrev pub work_on : Work → Loan → LentCall
work_on work l = work_of (work_number work) (numbers_for work) l.out.now l.table.now l.heap.now l.regs.now l.budget
