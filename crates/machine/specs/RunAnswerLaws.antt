-- The bare machine's run as the code answers it: where the limits refuse nothing it is the run, and else the refusal.
use Rattle.std.specs.Prelude.{ℕ, ◌≡◌, refl, List, length, Ok, Err}
use Rattle.refusals.specs.declared.Refusal.{Refusal}
use Rattle.refusals.specs.Refusals.{number_of}
use Rattle.refusals.specs.RefusalLaws.{answer_unique}
use Rattle.machine.specs.Numbers.{RUNNING}
use Rattle.machine.specs.Step.{machine_at}
use Rattle.machine.specs.Run.{Outcome, outcome_at, outcome_from, refusal_of, run_of}
use Rattle.machine.specs.RunLaws.{runs, refuses}

-- a refusal has a number
numbered : (e : Refusal) → number_of e ≡ 0 → ⊥
numbered e z = let same : Err e ≡ Ok (tt {0}) = answer_unique (Err e) (Ok tt) z in cc

module _ (code heap regs : List ℕ) (budget : ℕ) where
  pub runs_unrefused : (r : Outcome) → 0 ≡ refusal_of (length code) (length heap) budget → r ≡ outcome_from code budget (machine_at regs 0 RUNNING heap) 0
      → r ≡ run_of code heap regs budget
  runs_unrefused r e p = runs code heap regs budget 0 e r refl p

  pub runs_refused : (e : Refusal) → number_of e ≡ refusal_of (length code) (length heap) budget
      → outcome_at (machine_at regs 0 (number_of e) heap) 0 ≡ run_of code heap regs budget
  runs_refused e p = refuses code heap regs budget (number_of e) p (numbered e)

pub ruleset answers = (runs_unrefused, runs_refused)
