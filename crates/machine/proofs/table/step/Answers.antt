-- `step` acts where the state runs, with r0 put aside, and leaves a stopped state as it is.
use Rattle.std.proofs.Common.{◌≡◌, ℕ, ◌∙◌, List, get_or, set, refl, ap}
use Rattle.machine.specs.Numbers.{RUNNING}
use Rattle.machine.specs.declared.table.State.{State}
use Rattle.machine.specs.Step.{machine_at, machine_of, act_of, step_of}
use Rattle.machine.specs.StepLaws.{from_running, from_stopped}
use Rattle.machine.specs.R0Laws.{put_back}
use borrow.Author.Rules.{rules}
use Rattle.machine.proofs.table.step.Goals as goal

-- what a state that runs comes to, once what it held in r0 is put back
acted : (code : List ℕ) (s s' : State) (heap zeroed left : List ℕ) (pc status status' : ℕ) (heap' : List ℕ)
    → s.status ≡ RUNNING → zeroed ≡ set s.regs 0 0 → s' ≡ record { regs = set left 0 (get_or s.regs 0 0); pc = pc; status = status' } → status' ≡ status
    → machine_at left pc status heap' ≡ act_of code zeroed s.pc heap → machine_of s' heap' ≡ step_of code (machine_of s heap)
acted code s s' heap zeroed left pc status status' heap' running ez e es p =
    from_running code s heap _ running
    (rw (e, es) (put_back code s.regs s.pc heap left pc status heap' (get_or s.regs 0 0) refl (p ∙ ap (λ (z : List ℕ). act_of code z s.pc heap) ez)))

pub returns-then-s-ne-RUNNING : goal.returns-then-s-ne-RUNNING
returns-then-s-ne-RUNNING c = search (from_stopped, rules)

pub returns-in-Ok : goal.returns-in-Ok
returns-in-Ok c = search (acted, c.in-Ok.ensures, rules)

pub returns-in-Err : goal.returns-in-Err
returns-in-Err c = search (acted, c.in-Err.ensures, rules)
