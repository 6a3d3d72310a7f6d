-- `vans_check` is its task.
use Rattle.std.proofs.Common.{◌∙◌, refl}
use Rattle.desk.specs.TaskLaws.{call_checks}
use Rattle.desk.proofs.packet_calls.vans_check.Goals as goal

pub returns : goal.returns
returns c = c.packed.ensures ∙ call_checks _ _ _ _ _ _ _ _ _ _ _ c.call-done.ensures.did refl
