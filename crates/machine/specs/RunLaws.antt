-- Laws of runs: the heap keeps its length; a stopped machine stays; one turn of a run; how a run ends. `turns` holds the last two for a search.
use Prim.Native.Nat.{ℕ, zero, suc, ◌+◌, ◌-◌, ◌<◌, ◌≤◌}
use Rattle.std.proofs.Math.Nat.{add-zero}
use native.Mathlib.Omega.{arith}
use Rattle.std.specs.Prelude.{◌≡◌, List, length}
use Rattle.std.proofs.Math.Path.{refl, sym, ap}
use Rattle.std.proofs.Common.{◌∙◌}
use Rattle.choice.specs.Pick.{is_equal, not_equal}
use Rattle.machine.specs.Numbers.{HALTED, RUNNING}
use Rattle.machine.specs.Step.{Machine, machine_at, act_of, step_of}
use Rattle.machine.specs.StepLaws.{step_acts, step_stays, step_heap_length}
use Rattle.machine.specs.Run.{after, acted, acted_of, Outcome, outcome_at, outcome_from, refusal_of, run_of}

pub after_heap_length : (code : List ℕ) (n : ℕ) (m : Machine) → length (after code n m).heap ≡ length m.heap
unfolding after
after_heap_length code zero m = refl
after_heap_length code (suc n) m = after_heap_length code n (step_of code m) ∙ step_heap_length code m

module _ (code : List ℕ) (m : Machine) (stopped : m.state.status ≡ RUNNING → ⊥) where
  pub acted_not : (m' : Machine) → acted_of m m' ≡ 0
  unfolding acted_of
  acted_not m' = sym (not_equal m.state.status RUNNING _ _ _ stopped refl)

  pub after_stays : (n : ℕ) → after code n m ≡ m
  unfolding after
  after_stays zero = refl
  after_stays (suc n) = ap (after code n) (step_stays code m stopped) ∙ after_stays n

  pub acted_stays : (n : ℕ) → acted code n m ≡ 0
  unfolding acted
  acted_stays zero = refl
  acted_stays (suc n) = cc (acted_not (step_of code m), ap (acted code n) (step_stays code m stopped), acted_stays n)

  pub outcome_stays : (left n : ℕ) → outcome_at m n ≡ outcome_from code left m n
  unfolding outcome_from
  outcome_stays left n = rw (after_stays left, acted_stays left, add-zero n)

-- a run's step takes one from its budget
pub outcome_step : (code : List ℕ) (left : ℕ) (m : Machine) (n : ℕ) → outcome_from code (suc left) m n ≡ outcome_from code left (step_of code m) (n + acted_of m (step_of code m))
unfolding outcome_from after acted
outcome_step code left m n = ap (outcome_at (after code left (step_of code m))) (omega arith)

-- a run that has counted n < budget and stands at a running machine, whose step leads to the registers, pc, status and heap with a prime
module _ (whole : Outcome) (code : List ℕ) (budget n : ℕ) (regs : List ℕ) (pc : ℕ) (heap regs' : List ℕ) (pc' status' : ℕ) (heap' : List ℕ)
    (inv : whole ≡ outcome_from code (budget - n) (machine_at regs pc RUNNING heap) n) (h : n < budget)
    (acts : machine_at regs' pc' status' heap' ≡ act_of code regs pc heap) where
  led : (k : ℕ) → acted_of (machine_at regs pc RUNNING heap) (machine_at regs' pc' status' heap') ≡ k
      → whole ≡ outcome_from code (budget - (n + 1)) (machine_at regs' pc' status' heap') (n + k)
  led k e =
      let m : Machine = machine_at regs pc RUNNING heap in
      let m' : Machine = machine_at regs' pc' status' heap' in
      let left : ℕ = budget - (n + 1) in
      let one_less : budget - n ≡ suc left = omega arith in
      let stepped : step_of code m ≡ m' = step_acts code regs pc heap ∙ sym acts in
      inv
      ∙ ap (λ (l : ℕ). outcome_from code l m n) one_less
      ∙ outcome_step code left m n
      ∙ ap (λ (x : Machine). outcome_from code left x (n + acted_of m x)) stepped
      ∙ ap (λ (j : ℕ). outcome_from code left m' (n + j)) e

  -- it goes on
  pub turn : status' ≡ RUNNING → whole ≡ outcome_from code (budget - (n + 1)) (machine_at regs' pc' RUNNING heap') (n + 1)
  unfolding acted_of
  turn r =
      led 1 (sym (is_equal RUNNING RUNNING _ _ _ refl (is_equal status' RUNNING _ _ _ r refl)))
      ∙ ap (λ (s : ℕ). outcome_from code (budget - (n + 1)) (machine_at regs' pc' s heap') (n + 1)) r

  -- it halts, and the word counts
  pub halts : status' ≡ HALTED → outcome_at (machine_at regs' pc' status' heap') (n + 1) ≡ whole
  unfolding acted_of
  halts r =
      let stopped : status' ≡ RUNNING → ⊥ = λ q. omega arith in
      outcome_stays code (machine_at regs' pc' status' heap') stopped (budget - (n + 1)) (n + 1)
      ∙ sym (led 1 (sym (is_equal RUNNING RUNNING _ _ _ refl (not_equal status' RUNNING _ _ _ stopped (is_equal status' HALTED _ _ _ r refl)))))

  -- it traps, and the word does not count
  pub traps : (status' ≡ RUNNING → ⊥) → (status' ≡ HALTED → ⊥) → outcome_at (machine_at regs' pc' status' heap') n ≡ whole
  unfolding acted_of
  traps stopped s =
      outcome_stays code (machine_at regs' pc' status' heap') stopped (budget - (n + 1)) n
      ∙ ap (outcome_from code (budget - (n + 1)) (machine_at regs' pc' status' heap')) (sym (add-zero n))
      ∙ sym (led 0 (sym (is_equal RUNNING RUNNING _ _ _ refl (not_equal status' RUNNING _ _ _ stopped (not_equal status' HALTED _ _ _ s refl)))))

-- the budget is used up
pub ends : (whole : Outcome) (code : List ℕ) (budget n : ℕ) (regs : List ℕ) (pc : ℕ) (heap : List ℕ)
    → whole ≡ outcome_from code (budget - n) (machine_at regs pc RUNNING heap) n → budget ≤ n
    → outcome_at (machine_at regs pc RUNNING heap) n ≡ whole
unfolding outcome_from after acted
ends whole code budget n regs pc heap inv h =
    let none : budget - n ≡ 0 = omega arith in
    sym (inv ∙ ap (λ (l : ℕ). outcome_from code l (machine_at regs pc RUNNING heap) n) none ∙ ap (outcome_at (machine_at regs pc RUNNING heap)) (add-zero n))

-- where a run starts nothing is counted
pub begins : (code : List ℕ) (budget : ℕ) (m : Machine) → outcome_from code budget m 0 ≡ outcome_from code (budget - 0) m 0
begins code budget m = ap (λ (l : ℕ). outcome_from code l m 0) (omega arith)

-- the bare machine's run: the run where nothing is refused, else the refusal
module _ (code heap regs : List ℕ) (budget n : ℕ) (e : n ≡ refusal_of (length code) (length heap) budget) where
  pub runs : (r : Outcome) → n ≡ 0 → r ≡ outcome_from code budget (machine_at regs 0 RUNNING heap) 0 → r ≡ run_of code heap regs budget
  unfolding run_of
  runs r z p = is_equal (refusal_of (length code) (length heap) budget) 0 _ _ _ (sym e ∙ z) p

  pub refuses : (n ≡ 0 → ⊥) → outcome_at (machine_at regs 0 n heap) 0 ≡ run_of code heap regs budget
  unfolding run_of
  refuses z =
      not_equal (refusal_of (length code) (length heap) budget) 0 _ _ _ (λ h. z (e ∙ h))
      (ap (λ (k : ℕ). outcome_at (machine_at regs 0 k heap) 0) e)

pub ruleset turns = (begins, turn, halts, traps, ends, runs, refuses)
