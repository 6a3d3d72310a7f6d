-- Named in `using` on the function, these laws do not close the goals: `search` finds their premises, and `grind` does not.
use Rattle.std.proofs.Common.{rules}
use Rattle.lines.specs.PutLaws.{puts}
use Rattle.lines.proofs.texts.+put_decimal.Goals as goal

pub returns-then-n-lt10-clause-out_after : goal.returns-then-n-lt10-clause-out_after
returns-then-n-lt10-clause-out_after t c = search (puts, rules)

pub returns-clause-out_after : goal.returns-clause-out_after
returns-clause-out_after t c = search (puts, rules)

pub returns-clause-near : goal.returns-clause-near
returns-clause-near t c = search (puts, rules)
