-- `put_labelled` puts one text behind the other.
-- Named in `using` on the function, these laws do not close the goals: `search` finds their premises, and `grind` does not.
use Rattle.lines.specs.PutLaws.{behind}
use borrow.Author.Rules.{rules}
use Rattle.lines.proofs.texts.put_labelled.Goals as goal

pub returns-clause-out_after : goal.returns-clause-out_after
returns-clause-out_after c = search (behind, rules)
