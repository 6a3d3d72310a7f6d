use Rattle.std.proofs.Common.{ap, arith, refl, ◌≡◌, length}
use Rattle.std.proofs.lemmas.Result.{err_from_is_err_and}
use Rattle.listing.specs.Parts.{items_in}
use Rattle.listing.specs.Rest.{items_left}
use Rattle.refusals.specs.Refusals.{verdict_in}
use Rattle.checker.specs.States.{state_in}
use Rattle.checker.specs.WalkLaws.{few_items, walk_begins, turn, stop, at_end}
use Rattle.checker.proofs.walk.walk_items.Goals as goal

pub loop-item-init : goal.loop-item-init
loop-item-init c =
    let all : items_left c.into_iter-item-iterator.result ≡ items_in c.args.listing.now.numbers.now = cc in
    (walk_begins c.args.listing.now.numbers.now (state_in c.start-standing.result) c.start-standing.result.place _ c.start-standing.ensures.state c.start-standing.ensures.place all, omega (arith, ap length all))

pub step-requires : goal.step-requires
step-requires c = omega (arith, c.loop-item.invariant.1, ap length c.in-Some.ensures.steps, few_items c.args.listing.now.numbers.now)

pub loop-item-preserved : goal.loop-item-preserved
loop-item-preserved c = (
  turn _ c.args.listing.now.numbers.now (state_in c.loop-item.standing) c.loop-item.standing.place _ c.loop-item.invariant.0 c.in-Some.item _ c.in-Some.ensures.steps
      (state_in c.step.new.self) c.step.new.self.place c.in_ok-step.ensures.verdict c.in_ok-step.ensures.behind c.in_ok-step.ensures.place,
  omega (arith, c.loop-item.invariant.1, ap length c.in-Some.ensures.steps, c.in_ok-step.ensures.place),
)

pub returns-in_err-step : goal.returns-in_err-step
returns-in_err-step c =
    let p = err_from_is_err_and c.from_residual.result c.from_residual.ensures.1 in
    rw (p.1, p.2)
    (stop _ c.args.listing.now.numbers.now (state_in c.loop-item.standing) c.loop-item.standing.place _ c.loop-item.invariant.0 c.in-Some.item _ c.in-Some.ensures.steps c.in_err-step.field-0.0 c.in_err-step.ensures.verdict)

pub returns : goal.returns
returns c =
    at_end _ c.args.listing.now.numbers.now (state_in c.loop-item.standing) c.loop-item.standing.place _ c.loop-item.invariant.0 c.in-None.ensures.steps.0
    (verdict_in c.end.result) _ refl c.end.ensures
