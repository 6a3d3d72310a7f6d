-- `start_over` refuses the start, or runs.
use Rattle.std.proofs.Common.{refl}
use Rattle.std.proofs.lemmas.Result.{err_from_is_err_and}
use Rattle.desk.specs.VansDeskLaws.{numbered, start_refuses, start_place}
use Rattle.desk.proofs.desk_bytes.start_over.Goals as goal

pub returns-in_err-check-clause-served : goal.returns-in_err-check-clause-served
returns-in_err-check-clause-served c =
    let p = err_from_is_err_and c.from_residual.result c.from_residual.ensures.1 in
    rw (p.1, p.2) (start_refuses _ _ _ _ _ _ _ _ _ _ _ c.in_err-check.ensures (numbered _) refl)

pub returns-in_err-check-clause-near : goal.returns-in_err-check-clause-near
returns-in_err-check-clause-near c =
    let p = err_from_is_err_and c.from_residual.result c.from_residual.ensures.1 in
    rw (p.1, p.2) (start_place _ _ _ _ _ _ _ _ _ c.in_err-check.ensures c.requires.fitting c.requires.ready (numbered _))
