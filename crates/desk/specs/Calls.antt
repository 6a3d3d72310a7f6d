-- The call on a packet that a value of the code's type `Task` says.
use Rattle.std.specs.Prelude.{ℕ, List}
use Rattle.desk.specs.declared.tasks.Task.{Task}
use Rattle.desk.specs.declared.tasks.Task.TheVariants.{Read, Check, Erase, Desk}
use Rattle.desk.specs.declared.loan.Loan.{Loan}
use Rattle.checker.specs.Checked.{Checked}
use Rattle.desk.specs.LentCall.{LentCall}
use Rattle.desk.specs.Tasks.{checked_task, accepted_task, task_of}

-- its number
abbrev pub task_number : Task → ℕ
task_number Read = 0
task_number Check = 1
task_number Erase = 2
task_number Desk = 3

-- what it makes of a packet and a loan
abbrev pub task_on : Task → List ℕ → Loan → LentCall
task_on task packet l = task_of (task_number task) packet l.out.now l.heap.now l.table.now l.regs.now l.budget

-- of what the checker says of a packet, and its numbers
abbrev pub checked_on : Task → Checked → List ℕ → Loan → LentCall
checked_on task x ns l = checked_task (task_number task) x ns l.out.now l.heap.now l.table.now l.regs.now l.budget

-- of the numbers of a packet that is accepted
abbrev pub accepted_on : Task → List ℕ → Loan → LentCall
accepted_on task ns l = accepted_task (task_number task) ns l.out.now l.heap.now l.table.now l.regs.now l.budget
