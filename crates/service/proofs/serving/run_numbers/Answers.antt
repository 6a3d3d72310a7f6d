-- `run_numbers` erases into a buffer that the code fits, and runs it.
use Rattle.std.proofs.Common.{refl}
use Rattle.service.specs.DeskLaws.{runs, numbers_run, numbers_refused, numbers_unrefused}
use borrow.Author.Rules.{rules}
use Rattle.service.proofs.serving.run_numbers.Goals as goal

pub slice_bounds-run-end : goal.slice_bounds-run-end
slice_bounds-run-end c = search (runs, rules)

pub slice_bounds-run-end-2 : goal.slice_bounds-run-end-2
slice_bounds-run-end-2 c = search (runs, rules)

pub returns-in-Ok-clause-served : goal.returns-in-Ok-clause-served
returns-in-Ok-clause-served c = numbers_run _ _ _ _ c.requires.fits c.erase-n.ensures _ _ _ _ _ _ _ c.in-Ok.ensures.outcome refl

pub returns-in-Err-clause-served : goal.returns-in-Err-clause-served
returns-in-Err-clause-served c = numbers_refused _ _ _ _ c.requires.fits c.erase-n.ensures _ _ _ _ _ c.in-Err.ensures.outcome

pub returns-in-Err-clause-unrefused : goal.returns-in-Err-clause-unrefused
returns-in-Err-clause-unrefused c = numbers_unrefused _ _ _ _ c.requires.fits c.erase-n.ensures _ _ _ c.erase-n.auto.code c.requires.within c.in-Err.ensures.refused
