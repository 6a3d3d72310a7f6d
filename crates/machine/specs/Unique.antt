-- Any two results that meet a public call's promise are equal: the promise is one equation, and what it equates has the result and every lent word as parts.
use Rattle.std.specs.Prelude.{ℕ, ◌≡◌, List, length, Result, Ok, Err}
use Rattle.std.proofs.Common.{sym, ap, ◌∙◌, subst}
use Rattle.refusals.specs.declared.Refusal.{Refusal}
use Rattle.refusals.specs.RefusalLaws.{number_unique, answer_unique}
use Rattle.machine.specs.declared.table.State.{State}
use Rattle.machine.specs.declared.runs.Ran.{Ran}
use Rattle.machine.specs.Step.{Machine, machine_of, step_of}
use Rattle.machine.specs.Run.{Outcome, outcome_at, refusal_of, run_of}
use Rattle.machine.specs.RunAnswers.{refusal_in, outcome_in}

pub step_unique : (code heap : List ℕ) (s r r' : State) (heap₁ heap₂ : List ℕ)
    → machine_of r heap₁ ≡ step_of code (machine_of s heap) → machine_of r' heap₂ ≡ step_of code (machine_of s heap) → (r ≡ r') × (heap₁ ≡ heap₂)
step_unique code heap s r r' heap₁ heap₂ p q =
    (ap (λ (m : Machine). m.state) (p ∙ sym q), ap (λ (m : Machine). m.heap) (p ∙ sym q))

-- the outcome that a run's result and the heap behind it make
abbrev pub ran_outcome : Ran → List ℕ → Outcome
ran_outcome r heap = outcome_at (machine_of r.state heap) r.count

pub run_unique : (code heap regs : List ℕ) (budget : ℕ) (r r' : Ran) (heap₁ heap₂ : List ℕ)
    → ran_outcome r heap₁ ≡ run_of code heap regs budget → ran_outcome r' heap₂ ≡ run_of code heap regs budget
    → (r.state ≡ r'.state) × (r.count ≡ r'.count) × (heap₁ ≡ heap₂)
run_unique code heap regs budget r r' heap₁ heap₂ p q =
    (ap (λ (o : Outcome). o.machine.state) (p ∙ sym q), ap (λ (o : Outcome). o.count) (p ∙ sym q), ap (λ (o : Outcome). o.machine.heap) (p ∙ sym q))

same_ran : (r r' : Ran) → r.state ≡ r'.state → r.count ≡ r'.count → r ≡ r'
same_ran r r' s n = subst (λ (x : State). r ≡ record { state = x; count = r'.count }) s (ap (λ (k : ℕ). record { state = r.state; count = k }) n)

-- the same of the answers themselves, refusals with them
pub answer_of_run_unique : (code heap regs : List ℕ) (budget : ℕ) (r r' : Result Ran Refusal) (heap₁ heap₂ : List ℕ)
    → refusal_in r ≡ refusal_of (length code) (length heap) budget → outcome_in r regs heap₁ ≡ run_of code heap regs budget
    → refusal_in r' ≡ refusal_of (length code) (length heap) budget → outcome_in r' regs heap₂ ≡ run_of code heap regs budget
    → (r ≡ r') × (heap₁ ≡ heap₂)
answer_of_run_unique code heap regs budget (Ok r) (Ok r') heap₁ heap₂ n p n' q =
    let u : (r.state ≡ r'.state) × (r.count ≡ r'.count) × (heap₁ ≡ heap₂) = run_unique code heap regs budget r r' heap₁ heap₂ p q in
    (ap Ok (same_ran r r' u.0 u.1), u.2)
answer_of_run_unique code heap regs budget (Ok r) (Err e) heap₁ heap₂ n p n' q = let z : Ok (tt {0}) ≡ Err e = answer_unique (Ok tt) (Err e) (n ∙ sym n') in cc
answer_of_run_unique code heap regs budget (Err e) (Ok r) heap₁ heap₂ n p n' q = let z : Err e ≡ Ok (tt {0}) = answer_unique (Err e) (Ok tt) (n ∙ sym n') in cc
answer_of_run_unique code heap regs budget (Err e) (Err e') heap₁ heap₂ n p n' q =
    (ap Err (number_unique e e' (n ∙ sym n')), ap (λ (o : Outcome). o.machine.heap) (p ∙ sym q))
