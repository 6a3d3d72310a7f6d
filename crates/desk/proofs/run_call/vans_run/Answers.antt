-- `vans_run` runs over a loan of its buffers.
use Rattle.std.proofs.Common.{◌≡◌, arith}
use Rattle.desk.specs.Done.{answer_in}
use Rattle.desk.specs.RunCall.{run_call, vans_run_of}
use Rattle.desk.proofs.run_call.vans_run.Goals as goal

pub returns : goal.returns
returns c =
    let e : run_call (answer_in c.run_within-done.result) c.run_within-done.new.loan.heap.now c.run_within-done.new.loan.regs.now ≡ vans_run_of c.args.code.now c.args.heap.now c.args.regs.now c.args.budget =
    c.run_within-done.ensures.ran in
    rw c.packed.ensures (grind arith)
