-- `verdict` answers 6 itself, or asks the checker in a room for any packet.
use Rattle.std.proofs.lemmas.Result.{err_from_is_err_and}
use Rattle.lines.specs.LineLaws.{required_holds, required_fails, verdict_in_room}
use Rattle.lines.proofs.verdicts.verdict.Goals as goal

pub returns-in_err-require : goal.returns-in_err-require
returns-in_err-require c =
    let p = err_from_is_err_and c.from_residual.result c.from_residual.ensures.1 in
    rw (p.1, p.2) (required_fails c.args.packet.now c.in_err-require.field-0.0 c.in_err-require.ensures)

pub returns : goal.returns
returns c =
    verdict_in_room c.args.packet.now _ _ _ c.check.ensures (required_holds c.args.packet.now c.in_ok-require.field-0 c.in_ok-require.ensures) c.numbers_room-room.ensures
