-- A desk call that refuses nothing leaves what the run over its packet's listing leaves, from a start that passes. So what Sound says of such runs it says of such calls.
use Rattle.std.specs.Prelude.{ℕ, ◌≡◌, refl, List, length}
use Rattle.std.proofs.Common.{zero-add, subst, ◌∙◌}
use Rattle.std.proofs.Math.Path.{sym, ap}
use Rattle.std.proofs.Math.Bool.{true}
use Rattle.choice.specs.Pick.{is_equal}
use Rattle.levels.specs.Sets.{below_of, join_of}
use Rattle.levels.specs.SetLaws.{sets}
use Rattle.machine.specs.Numbers.{HALTED, RUNNING}
use Rattle.machine.specs.Step.{Machine, machine_at}
use Rattle.machine.specs.Run.{Outcome, acted, outcome_at, outcome_from}
use Rattle.listing.specs.Listing.{Listing}
use Rattle.listing.specs.Packet.{numbers_in}
use Rattle.listing.specs.Parts.{shapes_in, items_in}
use Rattle.checker.specs.Checked.{Checked, Accepted}
use Rattle.checker.specs.Check.{check_of}
use Rattle.eraser.specs.Erase.{needed_of}
use Rattle.start.specs.Start.{rows_of, first_listed, start_of}
use Rattle.start.specs.ClearLaws.{else_clear}
use Rattle.start.specs.PassingLaws.{clear_means}
use Rattle.service.specs.Desk.{right_sizes, sizes_of, later_fault, code_for, ran_of, DeskCall, ran_call, serve_by, desk_by, desk_of}
use Rattle.service.specs.DeskLaws.{right_means, sizes_pass}
use Rattle.sound.specs.Halting.{HaltsAt}
use Rattle.sound.specs.Observer.{Frame, StartsAgree, EndsAgree}
use Rattle.sound.specs.ListingRun as listing
use Rattle.sound.specs.Steps.{Steps, NoTrap, counted}
use Rattle.sound.specs.Accepted.{packet_listing, accepted_ranges, accepted_typed}
use Rattle.sound.specs.Sound.{Start}
use Rattle.sound.proofs.Sound as sound

-- a call, and the machine that it leaves
module _ (packet code heap blocks regs : List ℕ) (budget : ℕ) where
  abbrev call : DeskCall
  call = desk_of packet code heap blocks regs budget

  abbrev pub left_by : Machine
  left_by = machine_at call.answer.regs (ran_of (numbers_in packet) heap regs budget).machine.state.pc call.answer.number call.heap

  module _ (n : ℕ) (e : check_of packet ≡ Accepted n) (z : (later_fault (numbers_in packet) (length code) true heap blocks regs budget).number ≡ 0) where
    -- neither sizes nor start refuse
    sizes_and_start : ((sizes_of (needed_of (items_in (numbers_in packet))) (length code) (right_sizes (length heap) (length blocks) true) budget).number ≡ 0)
        × ((start_of (numbers_in packet) heap blocks regs).number ≡ 0)
    unfolding later_fault
    sizes_and_start = (else_clear _ (start_of (numbers_in packet) heap blocks regs)).0 z

    -- the run
    run_is : ran_of (numbers_in packet) heap regs budget
        ≡ outcome_at (listing.ran_of (packet_listing packet) regs heap budget) (acted (code_for (numbers_in packet)) budget (machine_at regs 0 RUNNING heap))
    unfolding code_for outcome_from
    run_is =
        let fit = sizes_pass _ (length code) _ budget sizes_and_start.0 in
        listing.run_is_steps below_of join_of (packet_listing packet) (accepted_ranges packet n e) (accepted_typed packet n e) heap regs budget
        (right_means (length heap) (length blocks) true fit.1).0 fit.2
        ∙ ap (outcome_at _) (zero-add _)

    -- and what the call leaves of it
    call_is : call ≡ ran_call (ran_of (numbers_in packet) heap regs budget) (code_for (numbers_in packet)) code
    unfolding desk_of desk_by serve_by
    call_is = ap (λ (x : Checked). desk_by x (numbers_in packet) code heap blocks regs budget) e ∙ sym (is_equal _ 0 _ _ _ z refl)

    left_is : left_by ≡ listing.ran_of (packet_listing packet) regs heap budget
    unfolding ran_call
    left_is =
        ap (λ (c : DeskCall). machine_at c.answer.regs (ran_of (numbers_in packet) heap regs budget).machine.state.pc c.answer.number c.heap) call_is
        ∙ ap (λ (o : Outcome). o.machine) run_is

    count_is : call.answer.count ≡ acted (code_for (numbers_in packet)) budget (machine_at regs 0 RUNNING heap)
    unfolding ran_call
    count_is = ap (λ (c : DeskCall). c.answer.count) call_is ∙ ap (λ (o : Outcome). o.count) run_is

    module _ (sixteen : length regs ≡ 16) where
      start : Start (packet_listing packet) (rows_of blocks) regs heap
      start = record {
        sixteen = sixteen;
        passing = clear_means (shapes_in (numbers_in packet)) (first_listed (numbers_in packet)) heap (rows_of blocks) regs sizes_and_start.1;
      }

      pub never_traps : NoTrap left_by
      never_traps =
          subst NoTrap (sym left_is) (sound.never_traps sets (packet_listing packet) (accepted_ranges packet n e) (accepted_typed packet n e) (rows_of blocks) regs heap start budget)

      pub halts_at_halt : call.answer.number ≡ HALTED → HaltsAt below_of join_of (packet_listing packet) left_by.state.pc
      halts_at_halt = subst (λ (m : Machine). m.state.status ≡ HALTED → HaltsAt below_of join_of (packet_listing packet) m.state.pc) (sym left_is)
          (sound.halts_at_halt sets (packet_listing packet) (accepted_ranges packet n e) (accepted_typed packet n e) (rows_of blocks) regs heap start budget)

      pub counts_steps : Steps (code_for (numbers_in packet)) budget (machine_at regs 0 RUNNING heap) call.answer.count left_by
      unfolding code_for
      counts_steps = rw (left_is, count_is)
          (counted (code_for (numbers_in packet)) budget (machine_at regs 0 RUNNING heap)
          (λ k. sound.never_traps sets (packet_listing packet) (accepted_ranges packet n e) (accepted_typed packet n e) (rows_of blocks) regs heap start k))

      pub keeps_outside : Frame (packet_listing packet).shapes (rows_of blocks) heap call.heap
      keeps_outside = subst (λ (m : Machine). Frame (packet_listing packet).shapes (rows_of blocks) heap m.heap) (sym left_is)
          (sound.keeps_outside sets (packet_listing packet) (accepted_ranges packet n e) (accepted_typed packet n e) (rows_of blocks) regs heap start budget)

-- two calls over one packet and one block table
pub tells_nothing : (packet blocks code₁ heap₁ regs₁ : List ℕ) (budget₁ n₁ : ℕ) (code₂ heap₂ regs₂ : List ℕ) (budget₂ n₂ : ℕ)
    → check_of packet ≡ Accepted n₁ → (later_fault (numbers_in packet) (length code₁) true heap₁ blocks regs₁ budget₁).number ≡ 0 → length regs₁ ≡ 16
    → check_of packet ≡ Accepted n₂ → (later_fault (numbers_in packet) (length code₂) true heap₂ blocks regs₂ budget₂).number ≡ 0 → length regs₂ ≡ 16
    → (o : ℕ) → StartsAgree sets o (packet_listing packet).shapes (rows_of blocks) (first_listed (numbers_in packet)) regs₁ heap₁ regs₂ heap₂
    → (left_by packet code₁ heap₁ blocks regs₁ budget₁).state.status ≡ HALTED → (left_by packet code₂ heap₂ blocks regs₂ budget₂).state.status ≡ HALTED
    → EndsAgree sets o (packet_listing packet) (rows_of blocks) (left_by packet code₁ heap₁ blocks regs₁ budget₁) (left_by packet code₂ heap₂ blocks regs₂ budget₂)
tells_nothing packet blocks code₁ heap₁ regs₁ budget₁ n₁ code₂ heap₂ regs₂ budget₂ n₂ e₁ z₁ l₁ e₂ z₂ l₂ o a h₁ h₂ =
    let is₁ = left_is packet code₁ heap₁ blocks regs₁ budget₁ n₁ e₁ z₁ in
    let is₂ = left_is packet code₂ heap₂ blocks regs₂ budget₂ n₂ e₂ z₂ in
    let l : Listing = packet_listing packet in
    subst (λ (m : Machine). EndsAgree sets o l (rows_of blocks) m (left_by packet code₂ heap₂ blocks regs₂ budget₂)) (sym is₁)
    (subst (EndsAgree sets o l (rows_of blocks) (listing.ran_of l regs₁ heap₁ budget₁)) (sym is₂)
    (sound.tells_nothing sets l (accepted_ranges packet n₁ e₁) (accepted_typed packet n₁ e₁) (rows_of blocks) o regs₁ heap₁ regs₂ heap₂
    (start packet code₁ heap₁ blocks regs₁ budget₁ n₁ e₁ z₁ l₁) (start packet code₂ heap₂ blocks regs₂ budget₂ n₂ e₂ z₂ l₂) a budget₁ budget₂
    (ap (λ (m : Machine). m.state.status) (sym is₁) ∙ h₁) (ap (λ (m : Machine). m.state.status) (sym is₂) ∙ h₂)))
