-- `run_over` hands heap and registers back in bytes.
use Rattle.std.proofs.Common.{refl}
use Rattle.desk.specs.RunCallLaws.{in_bytes_lem, in_bytes_refused}
use Rattle.desk.proofs.run_call.run_over.Goals as goal

pub returns-in-Ok-clause-ran : goal.returns-in-Ok-clause-ran
returns-in-Ok-clause-ran c = in_bytes_lem _ _ _ _ _ _ _ _ _ _ _ _ c.in-Ok.ensures.outcome c.put_back.ensures.out c.put_back.ensures.heap c.put_back.ensures.regs refl

pub returns-in-Err-clause-ran : goal.returns-in-Err-clause-ran
returns-in-Err-clause-ran c =
    in_bytes_refused _ _ _ _ _ _ _ _ _ _ _ c.in-Err.ensures.outcome c.put_back-in-Err.ensures.out c.put_back-in-Err.ensures.heap c.put_back-in-Err.ensures.regs refl
