use Prim.Native.Nat.{◌-◌}
use Rattle.std.proofs.Math.Path.{refl}
use native.Mathlib.Omega.{arith}
use Rattle.eraser.specs.AddressLaws.{few_needed}
use Rattle.eraser.specs.PassLaws.{left_all, left_more, left_none, pass_begins, words_turn, needed_turn, turn_fits, words_end}
use Rattle.eraser.proofs.words.put_all.Goals as goal

pub loop-init : goal.loop-init
loop-init c = (pass_begins _ _ _ _ (left_all _ _ _ _ c.items_place-place.ensures.value c.count_at-end.ensures.value (omega arith)), omega arith)

pub put-count-requires-clause-room : goal.put-count-requires-clause-room
put-count-requires-clause-room c =
    turn_fits _ _ _ _ (left_more _ _ _ (c.count_at-end.result - c.loop.counter - 1) (omega arith) _ c.item_at-item.ensures _ refl) _ _ _ c.loop.invariant.0.1 c.loop.invariant.0.2 c.requires

pub put-count-requires-clause-small : goal.put-count-requires-clause-small
put-count-requires-clause-small c = omega (arith, c.loop.invariant.0.1, few_needed c.args.numbers.now)

pub loop-preserved : goal.loop-preserved
loop-preserved c = (
  (
    words_turn _ _ _ _ (left_more _ _ _ _ (omega arith) _ c.item_at-item.ensures _ c.behind_item-at.ensures.value) _ _ _ _ _ c.loop.invariant.0.0 c.put-count.ensures.written c.put-count.ensures.value,
    needed_turn _ _ _ _ (left_more _ _ _ _ (omega arith) _ c.item_at-item.ensures _ c.behind_item-at.ensures.value) _ _ c.loop.invariant.0.1 c.put-count.ensures.value,
    cc,
  ),
  omega arith,
)

pub returns : goal.returns
returns c = words_end _ _ (left_none _ _ _ (omega arith)) _ _ _ c.loop.invariant.0.0
