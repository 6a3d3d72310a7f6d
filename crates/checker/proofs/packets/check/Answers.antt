-- `check` goes by what the packet is: each way is a law.
use Rattle.std.proofs.Common.{refl, arith}
use Rattle.std.proofs.lemmas.Result.{err_from_is_err_and}
use Rattle.checker.specs.CheckLaws.{front_fits, accepts, refuses, unread}
use Rattle.checker.proofs.packets.check.Goals as goal

pub returns-in_err-n : goal.returns-in_err-n
returns-in_err-n c =
    let p = err_from_is_err_and c.from_residual.result c.from_residual.ensures.1 in
    rw (p.1, p.2) (unread c.args.packet.now c.args.room.now c.read.new.numbers _ c.in_err-n.ensures c.in_err-n.field-0.0 refl)

pub slice_bounds-walk-end : goal.slice_bounds-walk-end
slice_bounds-walk-end c = omega (arith, front_fits c.args.packet.now c.args.room.now c.read.new.numbers c.in_ok-n.n c.in_ok-n.ensures c.read.auto.numbers)

pub returns-in_err-walk : goal.returns-in_err-walk
returns-in_err-walk c =
    let p = err_from_is_err_and c.from_residual-in_err-walk.result c.from_residual-in_err-walk.ensures.1 in
    rw (p.1, p.2) (refuses c.args.packet.now c.args.room.now c.read.new.numbers _ c.in_ok-n.ensures c.in_ok-n.n c.in_err-walk.field-0.0 refl c.in_err-walk.ensures)

pub returns : goal.returns
returns c = accepts c.args.packet.now c.args.room.now c.read.new.numbers _ c.in_ok-n.ensures c.in_ok-n.n refl c.in_ok-walk.ensures
