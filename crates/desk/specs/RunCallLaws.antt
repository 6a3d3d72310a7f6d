-- Laws of vans_run for the proofs of its code: what passes the border is whole words within the limits; the words' outcome makes the bytes' outcome; the call itself.
use Rattle.std.specs.Prelude.{ℕ, ◌+◌, ◌/◌, ◌%◌, ◌≤◌, ◌<◌, ◌≡◌, refl, List, length, ltb, eqb}
use Rattle.std.proofs.Common.{arith, sym, ◌∙◌, ⊎_elim, ltb-false, eqb-true}
use Rattle.std.proofs.Math.Path.{ap}
use Rattle.choice.specs.Pick.{either, if_less, is_less, is_equal, not_equal}
use Rattle.machine.specs.Numbers.{CODE_TOO_LONG, CODE_WORDS, HEAP_WORDS, BUDGET}
use Rattle.machine.specs.declared.table.State.{State}
use Rattle.machine.specs.Step.{machine_at, machine_of}
use Rattle.machine.specs.Run.{Outcome, outcome_at, refusal_of, run_of}
use Rattle.desk.specs.Bytes.{words_of, bytes_of}
use Rattle.desk.specs.Answer.{answer_of}
use Rattle.desk.specs.RunCall.{RunCall, run_call, REGS_BYTES, ragged_of, border_of, in_bytes, run_bytes_of, vans_run_of}
use Rattle.desk.specs.LentCall.{LentCall, lent_call}
use Rattle.desk.specs.Work.{Whole, beside_code}

-- what the machine makes of words, in bytes
module _ (c h r h' out out' heap' regs' : List ℕ) (budget a : ℕ) where
  pub in_bytes_lem : (s : State) (n : ℕ) → outcome_at (machine_of s h') n ≡ run_of c h r budget → out' ≡ out → heap' ≡ bytes_of h' → regs' ≡ bytes_of s.regs → a ≡ answer_of s.status 0 n
      → lent_call a out' heap' regs' ≡ beside_code out (in_bytes (run_of c h r budget))
  unfolding in_bytes
  in_bytes_lem s n eo e₀ e₁ e₂ e₃ = rw (e₀, e₁, e₂, e₃) (ap (λ (o : Outcome). beside_code out (in_bytes o)) eo)

  -- a refusal of the machine leaves its registers
  pub in_bytes_refused : (k : ℕ) → outcome_at (machine_at r 0 k h') 0 ≡ run_of c h r budget → out' ≡ out → heap' ≡ bytes_of h' → regs' ≡ bytes_of r → a ≡ answer_of k 0 0
      → lent_call a out' heap' regs' ≡ beside_code out (in_bytes (run_of c h r budget))
  in_bytes_refused k = in_bytes_lem (machine_at r 0 k h').state 0

pub of_bytes : (out code heap regs c h r : List ℕ) (budget : ℕ) (l : LentCall)
    → c ≡ words_of code → h ≡ words_of heap → r ≡ words_of regs → l ≡ beside_code out (in_bytes (run_of c h r budget)) → l ≡ beside_code out (run_bytes_of code heap regs budget)
unfolding run_bytes_of
of_bytes out code heap regs c h r budget l ec eh er e = rw (← ec, ← eh, ← er) e

-- what passes the border is whole words within the machine's limits
not_refused : (code heap budget : ℕ) → refusal_of code heap budget ≡ 0 → (code ≤ CODE_WORDS) × (heap ≤ HEAP_WORDS)
unfolding refusal_of
not_refused code heap budget e =
    ⊎_elim (λ w. absurd (omega (arith, w.1)))
    (λ w.
    (ltb-false CODE_WORDS code w.0, ⊎_elim (λ v. absurd (omega (arith, v.1))) (λ v. ltb-false HEAP_WORDS heap v.0) (either (ltb HEAP_WORDS heap) _ _ 0 w.1)))
    (either (ltb CODE_WORDS code) _ _ 0 e)

not_ragged : (n code heap regs : ℕ) → ragged_of n code heap regs ≡ 0 → (n ≡ 0) × (code % 4 + heap % 4 ≡ 0) × (regs ≡ REGS_BYTES)
unfolding ragged_of
not_ragged n code heap regs e =
    ⊎_elim (λ w. absurd (omega (arith, eqb-true n CODE_TOO_LONG w.0, w.1)))
    (λ w.
    ⊎_elim
    (λ v.
    ⊎_elim (λ u. (u.1, eqb-true (code % 4 + heap % 4) 0 v.0, eqb-true regs REGS_BYTES u.0)) (λ u. absurd (omega (arith, u.1)))
    (either (eqb regs REGS_BYTES) _ _ 0 v.1))
    (λ v. absurd (omega (arith, v.1)))
    (either (eqb (code % 4 + heap % 4) 0) _ _ 0 w.1))
    (either (eqb n CODE_TOO_LONG) _ _ 0 e)

pub passes : (code heap regs budget n : ℕ) → n ≡ border_of code heap regs budget → n ≡ 0 → Whole code heap regs
passes code heap regs budget n e z =
    let p : (refusal_of (code / 4) (heap / 4) budget ≡ 0) × (code % 4 + heap % 4 ≡ 0) × (regs ≡ REGS_BYTES) = not_ragged _ code heap regs (sym e ∙ z) in
    let q : (code / 4 ≤ CODE_WORDS) × (heap / 4 ≤ HEAP_WORDS) = not_refused (code / 4) (heap / 4) budget p.0 in
    record { table_whole = omega arith; heap_whole = omega arith; table_fits = q.0; heap_fits = q.1; regs_fit = p.2 }

-- the border's refusals in their order
module _ (code heap regs budget : ℕ) where
  not_too_long : code / 4 ≤ CODE_WORDS → refusal_of (code / 4) (heap / 4) budget ≡ CODE_TOO_LONG → ⊥
  unfolding refusal_of
  not_too_long h =
      let Goal : ℕ → Type 0 = λ (n : ℕ). n ≡ CODE_TOO_LONG → ⊥ in
      if_less Goal CODE_WORDS (code / 4) _ _ (λ k e. omega (arith, k, h)) (λ k. if_less Goal HEAP_WORDS (heap / 4) _ _ (λ _ e. omega arith) (λ _. if_less Goal BUDGET budget _ _ (λ _ e. omega arith) (λ _ e. omega arith)))

  pub border_long : 1024 < code / 4 → 36 ≡ border_of code heap regs budget
  unfolding ragged_of refusal_of CODE_WORDS
  border_long h =
      let long : 36 ≡ refusal_of (code / 4) (heap / 4) budget = is_less 1024 (code / 4) _ _ _ h refl in
      is_equal (refusal_of (code / 4) (heap / 4) budget) CODE_TOO_LONG _ _ _ (sym long) long

  pub border_ragged : code / 4 ≤ 1024 → (code % 4 + heap % 4 ≡ 0 → ⊥) → 30 ≡ border_of code heap regs budget
  unfolding ragged_of CODE_WORDS
  border_ragged h n = not_equal (refusal_of (code / 4) (heap / 4) budget) CODE_TOO_LONG _ _ _ (not_too_long h) (not_equal (code % 4 + heap % 4) 0 _ _ _ n refl)

  pub border_registers : code / 4 ≤ 1024 → code % 4 + heap % 4 ≡ 0 → (regs ≡ REGS_BYTES → ⊥) → 30 ≡ border_of code heap regs budget
  unfolding ragged_of CODE_WORDS
  border_registers h z n =
      not_equal (refusal_of (code / 4) (heap / 4) budget) CODE_TOO_LONG _ _ _ (not_too_long h) (is_equal (code % 4 + heap % 4) 0 _ _ _ z (not_equal regs REGS_BYTES _ _ _ n refl))

  pub border_machine : (r : ℕ) → code / 4 ≤ 1024 → code % 4 + heap % 4 ≡ 0 → regs ≡ REGS_BYTES → r ≡ refusal_of (code / 4) (heap / 4) budget → r ≡ border_of code heap regs budget
  unfolding ragged_of CODE_WORDS
  border_machine r h z g p =
      not_equal (refusal_of (code / 4) (heap / 4) budget) CODE_TOO_LONG _ _ _ (not_too_long h) (is_equal (code % 4 + heap % 4) 0 _ _ _ z (is_equal regs REGS_BYTES _ _ _ g p))

pub ruleset borders = (border_long, border_ragged, border_registers, border_machine)

-- the call
module _ (code heap regs : List ℕ) (budget n : ℕ) (e : n ≡ border_of (length code) (length heap) (length regs) budget) where
  pub call_runs : (l : RunCall) → n ≡ 0 → l ≡ run_bytes_of code heap regs budget → l ≡ vans_run_of code heap regs budget
  unfolding vans_run_of
  call_runs l z p = is_equal (border_of (length code) (length heap) (length regs) budget) 0 _ _ _ (sym e ∙ z) p

  pub call_refuses : (a : ℕ) → (n ≡ 0 → ⊥) → a ≡ answer_of n 0 0 → run_call a heap regs ≡ vans_run_of code heap regs budget
  unfolding vans_run_of
  call_refuses a z p =
      not_equal (border_of (length code) (length heap) (length regs) budget) 0 _ _ _ (λ h. z (e ∙ h))
      (ap (λ (k : ℕ). run_call k heap regs) (p ∙ ap (λ (k : ℕ). answer_of k 0 0) e))
