-- `enter` writes a label's address, or leaves the table as it is past its end: each way is a law.
use Rattle.eraser.specs.PassLaws.{enters, enters_not, enters_none}
use native.Mathlib.Omega.{arith}
use borrow.Author.Rules.{rules}
use Rattle.eraser.proofs.addresses.enter.Goals as goal

pub returns-then-i-lt128 : goal.returns-then-i-lt128
returns-then-i-lt128 c = search (enters, rules)

pub returns-else-i-lt128 : goal.returns-else-i-lt128
returns-else-i-lt128 c = enters_not c.args.item c.args.count _ c.in-Label.l c.in-Label.is (omega arith)

pub returns-in_default : goal.returns-in_default
returns-in_default c = enters_none c.args.item c.args.count _ c.in_default.not-Label (omega arith)
