-- Each turn of `drive` is a law of a run: it goes on, or it stops with what the start holds in r0 put back.
use Rattle.std.proofs.Common.{◌≡◌, ℕ, ◌+◌, ◌-◌, ◌<◌, ◌≤◌, ◌∙◌, List, get_or, set, refl, ap, arith}
use Rattle.std.proofs.Math.Nat.{add-zero}
use borrow.Author.Rules.{rules}
use Rattle.machine.specs.declared.table.State.{State}
use Rattle.machine.specs.declared.numbers.Stop.{Stop}
use Rattle.machine.specs.declared.numbers.Stop.TheVariants.{Halted, NoWord, BadWord, BadAddress}
use Rattle.machine.specs.Numbers.{RUNNING}
use Rattle.machine.specs.Step.{machine_at, machine_of, act_of}
use Rattle.machine.specs.Stops.{status_of, counted_of}
use Rattle.machine.specs.Run.{outcome_at, outcome_from}
use Rattle.machine.specs.RunLaws.{begins, turn, halts, traps, ends}
use Rattle.machine.specs.R0Laws.{put_back_run}
use Rattle.machine.proofs.runs.drive.Goals as goal

-- a run from the start, by one with 0 in r0
module _ (code : List ℕ) (budget : ℕ) (start zeroed heap : List ℕ) (ez : zeroed ≡ set start 0 0) where
  back : (left : List ℕ) (s : State) (pc status : ℕ) (heap' : List ℕ) (n : ℕ) → s ≡ record { regs = set left 0 (get_or start 0 0); pc = pc; status = status }
      → outcome_at (machine_at left pc status heap') n ≡ outcome_from code budget (machine_at zeroed 0 RUNNING heap) 0
      → outcome_at (machine_of s heap') n ≡ outcome_from code budget (machine_at start 0 RUNNING heap) 0
  back left s pc status heap' n e p =
      rw e
      (put_back_run code budget start heap (record { regs = left; pc = pc; status = status }) heap' n (get_or start 0 0) refl
      (p ∙ ap (λ (z : List ℕ). outcome_from code budget (machine_at z 0 RUNNING heap) 0) ez))

  -- where it stands when n words are counted
  module _ (n : ℕ) (regs : List ℕ) (pc : ℕ) (heap₁ : List ℕ)
      (inv : outcome_from code budget (machine_at zeroed 0 RUNNING heap) 0 ≡ outcome_from code (budget - n) (machine_at regs pc RUNNING heap₁) n) where
    -- it stops, for whatever reason
    stops_at : (left : List ℕ) (pc' : ℕ) (s : Stop) (heap' : List ℕ) → n < budget → machine_at left pc' (status_of s) heap' ≡ act_of code regs pc heap₁
        → outcome_at (machine_at left pc' (status_of s) heap') (n + counted_of s) ≡ outcome_from code budget (machine_at zeroed 0 RUNNING heap) 0
    stops_at left pc' Halted heap' h a = halts _ code budget n regs pc heap₁ left pc' _ heap' inv h a refl
    stops_at left pc' NoWord heap' h a = rw add-zero (traps _ code budget n regs pc heap₁ left pc' _ heap' inv h a (λ q. omega arith) (λ q. omega arith))
    stops_at left pc' BadWord heap' h a = rw add-zero (traps _ code budget n regs pc heap₁ left pc' _ heap' inv h a (λ q. omega arith) (λ q. omega arith))
    stops_at left pc' BadAddress heap' h a = rw add-zero (traps _ code budget n regs pc heap₁ left pc' _ heap' inv h a (λ q. omega arith) (λ q. omega arith))

    stops : (left : List ℕ) (t : State) (pc' : ℕ) (s : Stop) (status k : ℕ) (heap' : List ℕ) → t ≡ record { regs = set left 0 (get_or start 0 0); pc = pc'; status = status }
        → status ≡ status_of s → k ≡ counted_of s → n < budget → machine_at left pc' (status_of s) heap' ≡ act_of code regs pc heap₁
        → outcome_at (machine_of t heap') (n + k) ≡ outcome_from code budget (machine_at start 0 RUNNING heap) 0
    stops left t pc' s status k heap' e es ek h a =
        rw ek (back left t pc' (status_of s) heap' (n + counted_of s) (e ∙ ap (λ (x : ℕ). record { regs = set left 0 (get_or start 0 0); pc = pc'; status = x }) es) (stops_at left pc' s heap' h a))

    -- its budget is used
    used : (t : State) → t ≡ record { regs = set regs 0 (get_or start 0 0); pc = pc; status = RUNNING } → n ≤ budget → budget ≤ n
        → outcome_at (machine_of t heap₁) budget ≡ outcome_from code budget (machine_at start 0 RUNNING heap) 0
    used t e g h =
        let used_up : budget ≡ n = omega arith in
        back regs t pc RUNNING heap₁ budget e (ap (outcome_at (machine_at regs pc RUNNING heap₁)) used_up ∙ ends _ code budget n regs pc heap₁ inv h)

pub loop-count-init : goal.loop-count-init
loop-count-init c = search (begins, rules)

pub loop-count-preserved : goal.loop-count-preserved
loop-count-preserved c = search (turn, c.in-Ok.ensures, refl, rules)

pub returns-in-Err : goal.returns-in-Err
returns-in-Err c = search (stops, c.in-Err.ensures, rules)

pub returns : goal.returns
returns c = search (used, rules)
