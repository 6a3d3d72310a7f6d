-- `line` puts the line of the packet's verdict, which fits the buffer.
-- Named in `using` on the function, these laws do not close the goals: `search` finds their premises, and `grind` does not.
use Rattle.lines.specs.LineLaws.{whole_line}
use borrow.Author.Rules.{rules}
use Rattle.lines.proofs.verdicts.line.Goals as goal

pub returns-clause-out_after : goal.returns-clause-out_after
returns-clause-out_after c = search (whole_line, rules)
