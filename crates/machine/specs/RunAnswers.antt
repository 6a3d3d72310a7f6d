-- The code answers a run by a `Result`: what it ran, or why it refuses. Here are the refusal and the outcome that this means.
use Rattle.std.specs.Prelude.{ℕ, List, Result, Ok, Err}
use Rattle.refusals.specs.declared.Refusal.{Refusal}
use Rattle.refusals.specs.Refusals.{number_of}
use Rattle.machine.specs.declared.runs.Ran.{Ran}
use Rattle.machine.specs.Step.{machine_at, machine_of}
use Rattle.machine.specs.Run.{Outcome, outcome_at}

-- the refusal's number; 0 where there is none
abbrev pub refusal_in : Result Ran Refusal → ℕ
refusal_in (Ok r) = 0
refusal_in (Err e) = number_of e

-- the outcome, with the registers of the start and the heap that the call leaves
abbrev pub outcome_in : Result Ran Refusal → List ℕ → List ℕ → Outcome
outcome_in (Ok r) regs heap = outcome_at (machine_of r.state heap) r.count
outcome_in (Err e) regs heap = outcome_at (machine_at regs 0 (number_of e) heap) 0
