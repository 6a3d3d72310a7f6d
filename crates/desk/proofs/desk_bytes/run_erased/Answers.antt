-- `run_erased` erases into a room that holds any code, and hands code, heap and registers over in bytes.
-- With these laws under `using`, without a file, the check finds no proof.
use Rattle.desk.specs.VansDeskLaws.{erasings}
use borrow.Author.Rules.{rules}
use Rattle.desk.proofs.desk_bytes.run_erased.Goals as goal

pub slice_bounds-c-end : goal.slice_bounds-c-end
slice_bounds-c-end c = search (erasings, rules)

pub slice_bounds-spill-end : goal.slice_bounds-spill-end
slice_bounds-spill-end c = search (erasings, rules)

pub spill-requires : goal.spill-requires
spill-requires c = search (erasings, rules)

pub slice_bounds-c-end-2 : goal.slice_bounds-c-end-2
slice_bounds-c-end-2 c = search (erasings, rules)

pub slice_bounds-run_over-end : goal.slice_bounds-run_over-end
slice_bounds-run_over-end c = search (erasings, rules)

pub returns : goal.returns
returns c = search (erasings, rules)
