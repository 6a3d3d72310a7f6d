-- `put_refusal` puts the line's parts one behind the other.
-- Named in `using` on the function, these laws do not close the goals: `search` finds their premises, and `grind` does not.
use Rattle.lines.specs.LineLaws.{refusal_put, refusal_near}
use borrow.Author.Rules.{rules}
use Rattle.lines.proofs.verdicts.put_refusal.Goals as goal

pub returns-clause-out_after : goal.returns-clause-out_after
returns-clause-out_after c = search (refusal_put, rules)

pub returns-clause-bounded : goal.returns-clause-bounded
returns-clause-bounded c = search (refusal_near, rules)
