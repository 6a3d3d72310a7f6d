-- `vans_read` is its task.
use Rattle.std.proofs.Common.{◌≡◌, arith, refl}
use Rattle.desk.specs.Done.{answer_in}
use Rattle.desk.specs.PacketCall.{packet_call}
use Rattle.desk.specs.ReadCall.{vans_read_of}
use Rattle.desk.specs.TaskLaws.{call_reads}
use Rattle.desk.proofs.packet_calls.vans_read.Goals as goal

pub returns : goal.returns
returns c =
    let e : packet_call (answer_in c.call-done.result) c.call-done.new.loan.out.now ≡ vans_read_of c.args.packet.now c.args.numbers.now =
    call_reads _ _ _ _ _ _ _ _ _ _ _ c.call-done.ensures.did refl in
    rw c.packed.ensures (grind arith)
