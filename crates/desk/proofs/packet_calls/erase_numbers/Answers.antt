-- `erase_numbers` erases into a room that holds any code.
-- With these laws under `using`, without a file, the check finds no proof.
use Rattle.desk.specs.EraseCallLaws.{codes}
use borrow.Author.Rules.{rules}
use Rattle.desk.proofs.packet_calls.erase_numbers.Goals as goal

pub slice_bounds-code-end : goal.slice_bounds-code-end
slice_bounds-code-end c = search (codes, rules)

pub slice_bounds-hand_code-end : goal.slice_bounds-hand_code-end
slice_bounds-hand_code-end c = search (codes, rules)

pub hand_code-requires : goal.hand_code-requires
hand_code-requires c = search (codes, rules)

pub returns : goal.returns
returns c = search (codes, rules)
