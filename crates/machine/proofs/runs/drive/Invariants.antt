-- `drive` runs the machine: the whole run is what is left of it from each turn on.
use Rattle.std.proofs.Common.{◌≡◌, ◌-◌}
use Rattle.machine.specs.Numbers.{RUNNING}
use Rattle.machine.specs.Step.{machine_at}
use Rattle.machine.specs.Run.{outcome_from}
use Rattle.machine.proofs.runs.drive.Given as goal

abbrev pub invariant-loop-count : goal.invariant-loop-count
invariant-loop-count l = outcome_from l.code l.budget (machine_at l.initial.regs.words 0 RUNNING l.initial.heap) 0 ≡ outcome_from l.code (l.budget - l.count) (machine_at l.regs.words l.pc RUNNING l.heap) l.count
