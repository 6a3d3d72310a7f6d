-- `vans_desk` is its task.
use Rattle.std.proofs.Common.{◌≡◌, arith, refl}
use Rattle.desk.specs.Done.{answer_in}
use Rattle.desk.specs.LentCall.{lent_call}
use Rattle.desk.specs.VansDesk.{vans_desk_of}
use Rattle.desk.specs.TaskLaws.{call_serves}
use Rattle.desk.proofs.packet_calls.vans_desk.Goals as goal

pub returns : goal.returns
returns c =
    let e : lent_call (answer_in c.call-done.result) c.call-done.new.loan.out.now c.call-done.new.loan.heap.now c.call-done.new.loan.regs.now ≡ vans_desk_of c.args.packet.now c.args.code.now c.args.heap.now c.args.blocks.now c.args.regs.now c.args.budget =
    call_serves _ _ _ _ _ _ _ _ _ _ _ c.call-done.ensures.did refl in
    rw c.packed.ensures (grind arith)
