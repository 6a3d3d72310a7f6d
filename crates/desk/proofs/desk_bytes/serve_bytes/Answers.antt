-- `serve_bytes` refuses by sizes, or starts over the buffers.
use Rattle.std.proofs.Common.{refl}
use Rattle.std.proofs.lemmas.Result.{err_from_is_err_and}
use Rattle.desk.specs.WorkLaws.{started_work}
use Rattle.desk.specs.VansDeskLaws.{numbered, size_refuses, size_opens, size_place}
use Rattle.desk.proofs.desk_bytes.serve_bytes.Goals as goal

pub returns-in_err-size_fault-clause-served : goal.returns-in_err-size_fault-clause-served
returns-in_err-size_fault-clause-served c =
    let p = err_from_is_err_and c.from_residual.result c.from_residual.ensures.1 in
    rw (p.1, p.2) (size_refuses _ _ _ _ _ _ _ _ _ c.in_err-size_fault.ensures (numbered _) refl)

pub returns-in_err-size_fault-clause-near : goal.returns-in_err-size_fault-clause-near
returns-in_err-size_fault-clause-near c =
    let p = err_from_is_err_and c.from_residual.result c.from_residual.ensures.1 in
    rw (p.1, p.2) (size_place _ _ _ _ _ _ _ _ c.in_err-size_fault.ensures)

pub returns-clause-served : goal.returns-clause-served
returns-clause-served c = size_opens _ _ _ _ _ _ _ c.in_ok-size_fault.ensures (started_work _ _ _ _ _ _ _ _ refl c.over_room.ensures.did)
