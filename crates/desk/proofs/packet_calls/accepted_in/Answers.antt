-- `accepted_in`: an arm that lends the buffer alone.
-- With these laws under `using`, without a file, the check finds no proof.
use Rattle.desk.specs.TaskLaws.{accepteds}
use borrow.Author.Rules.{rules}
use Rattle.desk.proofs.packet_calls.accepted_in.Goals as goal

pub returns-in-Erase-clause-did : goal.returns-in-Erase-clause-did
returns-in-Erase-clause-did c = search (accepteds, rules)
