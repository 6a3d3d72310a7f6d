-- 01, "Erased code and the machine": a run with a budget, its count, and what the bare machine refuses.
use Rattle.std.specs.Prelude.{ℕ, zero, suc, ◌+◌, List, length, ltb, eqb}
use Rattle.choice.specs.Pick.{pick}
use Rattle.machine.specs.Numbers.{HALTED, RUNNING, CODE_TOO_LONG, BAD_SIZE, BUDGET_TOO_LARGE, CODE_WORDS, HEAP_WORDS, BUDGET}
use Rattle.machine.specs.Step.{Machine, machine_at, step_of}

-- the machine after so many steps
unfoldable pub after : List ℕ → ℕ → Machine → Machine
after code zero m = m
after code (suc n) m = after code n (step_of code m)

-- 1 where the step from one machine to the next acted on a word, halt included, and 0 where it trapped or the machine had stopped before
unfoldable pub acted_of : Machine → Machine → ℕ
acted_of m m' =
    pick (eqb m.state.status RUNNING)
    (pick (eqb m'.state.status RUNNING) 1 (pick (eqb m'.state.status HALTED) 1 0))
    0

-- how many of so many steps act on a word
unfoldable pub acted : List ℕ → ℕ → Machine → ℕ
acted code zero m = 0
acted code (suc n) m = acted_of m (step_of code m) + acted code n (step_of code m)

-- what a run leaves: the machine, and the count of words acted on
pub record Outcome : Type 0 where
  pub machine : Machine
  pub count : ℕ

abbrev pub outcome_at : Machine → ℕ → Outcome
outcome_at m n = record { machine = m; count = n }

-- what is left of a run that has counted n, with so much of its budget
unfoldable pub outcome_from : List ℕ → ℕ → Machine → ℕ → Outcome
outcome_from code left m n = outcome_at (after code left m) (n + acted code left m)

-- the bare machine's refusal of a code and a heap of so many words and of a budget, in 01's order; 0 where there is none
unfoldable pub refusal_of : ℕ → ℕ → ℕ → ℕ
refusal_of code heap budget =
    pick (ltb CODE_WORDS code) CODE_TOO_LONG
    (pick (ltb HEAP_WORDS heap) BAD_SIZE
    (pick (ltb BUDGET budget) BUDGET_TOO_LARGE 0))

-- the bare machine's run from pc 0; a refusal takes the status's place, and changes nothing
unfoldable pub run_of : List ℕ → List ℕ → List ℕ → ℕ → Outcome
run_of code heap regs budget =
    pick (eqb (refusal_of (length code) (length heap) budget) 0)
    (outcome_from code budget (machine_at regs 0 RUNNING heap) 0)
    (outcome_at (machine_at regs 0 (refusal_of (length code) (length heap) budget) heap) 0)
