-- `task_in`: an arm that lends the buffer alone.
-- With these laws under `using`, without a file, the check finds no proof.
use Rattle.desk.specs.TaskLaws.{tasks}
use borrow.Author.Rules.{rules}
use Rattle.desk.proofs.packet_calls.task_in.Goals as goal

pub returns-in-Read-clause-did : goal.returns-in-Read-clause-did
returns-in-Read-clause-did c = search (tasks, rules)
