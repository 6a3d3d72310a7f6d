-- `run_within` refuses, or runs in a room that is large enough.
use Rattle.std.proofs.Common.{ap, refl}
use Rattle.std.proofs.lemmas.Result.{err_from_is_err_and}
use Rattle.refusals.specs.Refusals.{number_in}
use Rattle.desk.specs.Done.{unplaced_of}
use Rattle.desk.specs.DoneLaws.{mapped_ok, mapped_err, unplaced_answer, unplaced_near, unplaced_number}
use Rattle.desk.specs.WorkLaws.{ran_work}
use Rattle.desk.specs.RunCallLaws.{passes, call_runs, call_refuses}
use Rattle.desk.proofs.run_call.run_within.Goals as goal

pub over_room-requires-clause-whole : goal.over_room-requires-clause-whole
over_room-requires-clause-whole c = passes _ _ _ _ _ c.border.ensures (ap number_in (mapped_ok unplaced_of c.border.result c.in_ok-map_err.field-0 c.in_ok-map_err.ensures.cases))

pub returns-clause-ran : goal.returns-clause-ran
returns-clause-ran c =
    call_runs _ _ _ _ _ c.border.ensures _ (ap number_in (mapped_ok unplaced_of c.border.result c.in_ok-map_err.field-0 c.in_ok-map_err.ensures.cases))
    (ran_work _ _ _ _ _ _ _ _ _ _ _ refl c.over_room.ensures.did)

pub returns-in_err-map_err-clause-ran : goal.returns-in_err-map_err-clause-ran
returns-in_err-map_err-clause-ran c =
    let p = err_from_is_err_and c.from_residual.result c.from_residual.ensures.1 in
    let m = mapped_err unplaced_of c.border.result c.in_err-map_err.field-0.0 c.in_err-map_err.ensures.cases in
    rw (p.1, p.2) (call_refuses _ _ _ _ _ c.border.ensures _ (unplaced_number _ _ m.1) (unplaced_answer _ _ m.1 _ m.2))

pub returns-in_err-map_err-clause-near : goal.returns-in_err-map_err-clause-near
returns-in_err-map_err-clause-near c =
    let p = err_from_is_err_and c.from_residual.result c.from_residual.ensures.1 in
    let m = mapped_err unplaced_of c.border.result c.in_err-map_err.field-0.0 c.in_err-map_err.ensures.cases in
    rw (p.1, p.2) (unplaced_near _ _ m.2)
