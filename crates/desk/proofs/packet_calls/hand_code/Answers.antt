-- `hand_code`: where it is not refused, the code does not fit, or the buffer is whole words.
use Rattle.desk.specs.EraseCallLaws.{handings}
use borrow.Author.Rules.{rules}
use Rattle.desk.proofs.packet_calls.hand_code.Goals.{else-code-out-via-then-code-out+else-out-ne0, else-code-out-via-else-code-out}
use Rattle.desk.proofs.packet_calls.hand_code.Goals as goal

pub returns-then-out-ne0 : goal.returns-then-out-ne0
returns-then-out-ne0 c = search (handings, rules)

pub hand_over-requires : goal.hand_over-requires
hand_over-requires c = search (handings, rules)

pub returns : goal.returns
returns c = elim c.else-code-out.branch [ else-code-out-via-then-code-out+else-out-ne0 w ↦ search (handings, rules) | else-code-out-via-else-code-out w ↦ search (handings, rules) ]
