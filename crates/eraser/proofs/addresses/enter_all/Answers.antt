use native.Mathlib.Omega.{arith}
use Rattle.eraser.specs.AddressLaws.{few_needed}
use Rattle.eraser.specs.PassLaws.{left_all, left_more, left_none, pass_begins, words_turn, needed_turn, words_end, needed_ends}
use Rattle.eraser.proofs.addresses.enter_all.Goals as goal

pub loop-init : goal.loop-init
loop-init c = (pass_begins _ _ _ _ (left_all _ _ _ _ c.items_place-place.ensures.value c.count_at-end.ensures.value (omega arith)), omega arith)

pub count_behind-count-requires : goal.count_behind-count-requires
count_behind-count-requires c = omega (arith, c.loop.invariant.0.1, few_needed c.args.numbers.now)

pub loop-preserved : goal.loop-preserved
loop-preserved c = (
  (
    words_turn _ _ _ _ (left_more _ _ _ _ (omega arith) _ c.item_at-item.ensures _ c.behind_item-at.ensures.value) _ _ _ _ _ c.loop.invariant.0.0 c.enter.ensures c.count_behind-count.ensures.value,
    needed_turn _ _ _ _ (left_more _ _ _ _ (omega arith) _ c.item_at-item.ensures _ c.behind_item-at.ensures.value) _ _ c.loop.invariant.0.1 c.count_behind-count.ensures.value,
    cc,
  ),
  omega arith,
)

pub returns-clause-value : goal.returns-clause-value
returns-clause-value c = needed_ends _ _ (left_none _ _ _ (omega arith)) _ c.loop.invariant.0.1

pub returns-clause-entered : goal.returns-clause-entered
returns-clause-entered c = words_end _ _ (left_none _ _ _ (omega arith)) _ _ _ c.loop.invariant.0.0
