-- Laws of the desk call for the proofs of its code, one for each way through it.
use Rattle.std.specs.Prelude.{ℕ, ◌%◌, ◌<◌, ◌≤◌, ◌≡◌, Bool, false, Result, Ok, Err, length}
use Rattle.std.proofs.Common.{arith, ◌∙◌, length-take-le}
use Rattle.std.proofs.Math.Path.{refl, sym, ap}
use Rattle.std.proofs.Math.Bool.{true}
use mathlib.Core.List.{List, ◌++◌}
use Rattle.std.proofs.Math.ListN.{take, drop}
use Rattle.std.proofs.Math.Seq.{take_at}
use Rattle.choice.specs.Pick.{if_less, if_equal, each_way, is_less, not_less, is_equal, not_equal}
use Rattle.refusals.specs.declared.Refusal.{Refusal}
use Rattle.refusals.specs.declared.Fault.{Fault}
use Rattle.refusals.specs.Refusals.{number_of, Verdict, verdict_of, verdict_in}
use Rattle.refusals.specs.RefusalLaws.{some_number}
use Rattle.machine.specs.Numbers.{CODE_WORDS, HEAP_WORDS, BUDGET}
use Rattle.machine.specs.declared.table.State.{State}
use Rattle.machine.specs.Step.{machine_at, machine_of}
use Rattle.machine.specs.Run.{Outcome, outcome_at, refusal_of, run_of}
use Rattle.listing.specs.Limits.{BYTES, TOO_LONG}
use Rattle.listing.specs.Taken.{Taken, fault_for}
use Rattle.listing.specs.declared.reading.ReadError.{ReadError}
use Rattle.listing.specs.declared.reading.ReadError.TheVariants as error
use Rattle.listing.specs.Packet.{taken_of, numbers_in}
use Rattle.listing.specs.Parts.{items_in}
use Rattle.checker.specs.Checked.{Checked, Accepted, Refused, NoRoom, checked_in}
use Rattle.checker.specs.Check.{checking_of, checked_by, check_in, check_of}
use Rattle.checker.specs.Check as checker
use Rattle.checker.specs.CheckLaws.{check_answer, check_count, check_numbers}
use Rattle.eraser.specs.Erase.{needed_of, addresses_of, code_of, Erased, erased_by, erase_of, erase_items}
use Rattle.eraser.specs.PassLaws.{code_length}
use Rattle.eraser.specs.Theorems.{needed_fits}
use Rattle.start.specs.Start.{passed, or_else, start_of}
use Rattle.start.specs.SearchLaws.{first_passes, first_stands}
use Rattle.service.specs.Numbers.{DOES_NOT_FIT, BLOCK_WORDS}
use Rattle.service.specs.Desk.{right_sizes, sizes_of, later_fault, code_for, ran_of, Service, DeskCall, desk_call, service_of, refused_call, ran_call, serve_by, desk_by, desk_of}
use Rattle.service.specs.Served.{service_in, fault_in, fault_by, desk_fault}

-- sizes, and then the start
module _ (ns : List ℕ) (code : ℕ) (whole : Bool) (heap blocks regs : List ℕ) (budget : ℕ) where
  abbrev size : Verdict
  size = sizes_of (needed_of (items_in ns)) code (right_sizes (length heap) (length blocks) whole) budget

  pub later_stands : (e : Fault) → verdict_in (Err e) ≡ size → verdict_in (Err e) ≡ later_fault ns code whole heap blocks regs budget
  unfolding later_fault
  later_stands e p = first_stands size (start_of ns heap blocks regs) e p

  pub later_starts : (r : Verdict) → passed ≡ size → r ≡ start_of ns heap blocks regs → r ≡ later_fault ns code whole heap blocks regs budget
  unfolding later_fault
  later_starts r z p = first_passes size (start_of ns heap blocks regs) r z p

-- a code that the buffer holds, erased and run
module _ (ns code code' : List ℕ) (n : ℕ) (fits : needed_of (items_in ns) ≤ length code) (e : erased_by n code' ≡ erase_of ns code) where
  abbrev front : List ℕ
  front = code_of (addresses_of (items_in ns)) (items_in ns)

  erased : erased_by n code' ≡ erased_by (needed_of (items_in ns)) (front ++ drop (needed_of (items_in ns)) code)
  unfolding erase_items
  erased = e ∙ sym (not_less (length code) (needed_of (items_in ns)) _ _ _ fits refl)

  pub needed_is : n ≡ needed_of (items_in ns)
  needed_is = ap (λ (x : Erased). x.needed) erased

  pub erased_count : length code' ≡ length code → n ≤ length code'
  erased_count s = omega (arith, needed_is)

  pub erased_length : length code' ≡ length code → n ≡ length (take n code')
  erased_length s = sym (length-take-le n code' (erased_count s))

  pub erased_front : take n code' ≡ code_for ns
  unfolding code_for
  erased_front =
      ap (λ (x : Erased). take n x.code) erased
      ∙ take_at front (drop (needed_of (items_in ns)) code) n (code_length (addresses_of (items_in ns)) (items_in ns) ∙ sym needed_is)

  pub erased_whole : code' ≡ code_for ns ++ drop (length (code_for ns)) code
  unfolding code_for
  erased_whole =
      ap (λ (x : Erased). x.code) erased
      ∙ ap (λ (k : ℕ). front ++ drop k code) (sym (code_length (addresses_of (items_in ns)) (items_in ns)))

  pub numbers_run : (heap heap' regs : List ℕ) (budget count : ℕ) (s : State) (r : Service)
      → outcome_at (machine_of s heap') count ≡ run_of (take n code') heap regs budget → r ≡ service_of s.status 0 count s.regs
      → desk_call r code' heap' ≡ ran_call (ran_of ns heap regs budget) (code_for ns) code
  unfolding ran_call
  numbers_run heap heap' regs budget count s r o p =
      let same : outcome_at (machine_of s heap') count ≡ ran_of ns heap regs budget = o ∙ ap (λ (l : List ℕ). run_of l heap regs budget) erased_front in
      (λ i. desk_call (p i) (erased_whole i) heap') ∙ ap (λ (x : Outcome). ran_call x (code_for ns) code) same

  -- which the machine does not refuse
  pub numbers_refused : (heap heap' regs : List ℕ) (budget k : ℕ) → outcome_at (machine_at regs 0 k heap') 0 ≡ run_of (take n code') heap regs budget
      → desk_call (service_of k 0 0 regs) code' heap' ≡ ran_call (ran_of ns heap regs budget) (code_for ns) code
  numbers_refused heap heap' regs budget k o = numbers_run heap heap' regs budget 0 (machine_at regs 0 k heap').state (service_of k 0 0 regs) o refl

  pub numbers_unrefused : (heap : List ℕ) (budget : ℕ) (e : Refusal) {A : Type 0} → length code' ≡ length code → refusal_of (needed_of (items_in ns)) (length heap) budget ≡ 0
      → number_of e ≡ refusal_of (length (take n code')) (length heap) budget → A
  numbers_unrefused heap budget e s z p =
      absurd (some_number e (sym (p ∙ ap (λ (k : ℕ). refusal_of k (length heap) budget) (sym (erased_length s) ∙ needed_is) ∙ z)))

pub ruleset sizings = (later_stands, later_starts)

pub ruleset runs = (refl, erased_count, erased_length)

-- what passes the sizes
pub right_means : (heap blocks : ℕ) (whole : Bool) → right_sizes heap blocks whole ≡ true → (heap ≤ HEAP_WORDS) × (blocks ≤ BLOCK_WORDS) × (whole ≡ true)
unfolding right_sizes
right_means heap blocks whole =
    let Goal : Bool → Type 0 = λ (t : Bool). t ≡ true → (heap ≤ HEAP_WORDS) × (blocks ≤ BLOCK_WORDS) × (whole ≡ true) in
    if_less Goal HEAP_WORDS heap _ _ (λ h q. false_not_true q)
    (λ h₁. if_less Goal BLOCK_WORDS blocks _ _ (λ h q. false_not_true q)
    (λ h₂. if_equal Goal (blocks % 2) 0 _ _ (λ h₃ q. (h₁, h₂, q)) (λ h₃ q. false_not_true q)))
  where
    false_not_true : {A : Type 0} → false ≡ true → A
    false_not_true q = let z : ◌≡◌ {A = ℕ} 0 1 = cc in absurd (omega arith)

pub sizes_pass : (needed code : ℕ) (right : Bool) (budget : ℕ) → (sizes_of needed code right budget).number ≡ 0 → (needed ≤ code) × (right ≡ true) × (budget ≤ BUDGET)
unfolding sizes_of
sizes_pass needed code right budget =
    let Goal : Verdict → Type 0 = λ (f : Verdict). f.number ≡ 0 → (needed ≤ code) × (right ≡ true) × (budget ≤ BUDGET) in
    if_less Goal code needed _ _ (λ h q. absurd (omega arith))
    (λ h. each_way Goal right _ _ (λ w. if_less Goal BUDGET budget _ _ (λ b q. absurd (omega arith)) (λ b q. (h, w, b))) (λ w q. absurd (omega arith)))

-- and so all
module _ (ns : List ℕ) (code : ℕ) (whole : Bool) (heap blocks regs : List ℕ) (budget : ℕ) (f : Verdict) (e : f ≡ later_fault ns code whole heap blocks regs budget) (z : f.number ≡ 0) where
  pub later_passes : (sizes_of (needed_of (items_in ns)) code (right_sizes (length heap) (length blocks) whole) budget).number ≡ 0
  unfolding later_fault or_else
  later_passes =
      let size : Verdict = sizes_of (needed_of (items_in ns)) code (right_sizes (length heap) (length blocks) whole) budget in
      if_equal (λ (x : Verdict). x.number ≡ 0 → size.number ≡ 0) size.number 0 _ size (λ q r. q) (λ q r. r)
      (ap (λ (x : Verdict). x.number) (sym e) ∙ z)

  pub passes_fit : needed_of (items_in ns) ≤ code
  passes_fit = (sizes_pass _ code _ budget later_passes).0

  -- the machine refuses nothing of what has passed
  pub passes_within : refusal_of (needed_of (items_in ns)) (length heap) budget ≡ 0
  unfolding refusal_of CODE_WORDS
  passes_within =
      let p = sizes_pass (needed_of (items_in ns)) code (right_sizes (length heap) (length blocks) whole) budget later_passes in
      let r = right_means (length heap) (length blocks) whole p.1 in
      sym
      (not_less 1024 (needed_of (items_in ns)) _ _ _ (omega (arith, needed_fits ns))
      (not_less HEAP_WORDS (length heap) _ _ _ r.0 (not_less BUDGET budget _ _ _ p.2 refl)))

-- a listing's numbers, by the refusal
module _ (f : Verdict) (ns code heap regs : List ℕ) (budget : ℕ) where
  pub serves : (l : DeskCall) → passed ≡ f → l ≡ ran_call (ran_of ns heap regs budget) (code_for ns) code → l ≡ serve_by f ns code heap regs budget
  unfolding serve_by
  serves l z p = is_equal f.number 0 _ _ _ (ap (λ (x : Verdict). x.number) (sym z)) p

  pub refuses : (e : Fault) → verdict_in (Err e) ≡ f → desk_call (service_in (Err e) regs) code heap ≡ serve_by f ns code heap regs budget
  unfolding serve_by refused_call
  refuses e p =
      not_equal f.number 0 _ _ _ (λ z. some_number e.refusal (sym (ap (λ (x : Verdict). x.number) p ∙ z)))
      (ap (λ (x : Verdict). desk_call (service_of x.number x.place 0 regs) code heap) p)

pub ruleset servings = (passes_fit, passes_within, serves, refuses)

-- a packet over the limit
pub too_long : (packet : List ℕ) → BYTES < length packet → Refused TOO_LONG 0 ≡ check_of packet
unfolding check_of taken_of checked_by
too_long packet h = ap (λ (t : Taken). checked_by t (checker.verdict_in packet)) (is_less BYTES (length packet) _ _ _ h refl)

-- the call, by what the checker says of the packet in a room that is large enough
module _ (packet code heap blocks regs : List ℕ) (budget : ℕ) where
  abbrev Answers : Verdict → DeskCall → Type 0
  Answers v l = (l ≡ desk_of packet code heap blocks regs budget) × (v ≡ desk_fault packet (length code) heap blocks regs budget)

  served_as : (x : Checked) (v : Verdict) (l : DeskCall) → x ≡ check_of packet → l ≡ desk_by x (numbers_in packet) code heap blocks regs budget
      → v ≡ fault_by x (numbers_in packet) (length code) heap blocks regs budget → Answers v l
  unfolding desk_of desk_fault
  served_as x v l p q s = (
    q ∙ ap (λ (y : Checked). desk_by y (numbers_in packet) code heap blocks regs budget) p,
    s ∙ ap (λ (y : Checked). fault_by y (numbers_in packet) (length code) heap blocks regs budget) p,
  )

  pub desk_too_long : BYTES < length packet → Answers (verdict_of TOO_LONG 0) (desk_call (service_of TOO_LONG 0 0 regs) code heap)
  unfolding desk_by fault_by refused_call
  desk_too_long h = served_as (Refused TOO_LONG 0) _ _ (too_long packet h) refl refl

  module _ (room room' : List ℕ) (c : Checked) (e : checking_of c room' ≡ check_in packet room) (h : length packet ≤ BYTES) (whole : length room ≡ BYTES) where
    enough : length packet ≤ length room
    enough = omega arith

    is_check : (x : Checked) → c ≡ x → x ≡ check_of packet
    is_check x p = sym p ∙ check_answer packet room room' c e h enough

    pub desk_accepted : (n : ℕ) (v : Verdict) (l : DeskCall) → c ≡ Accepted n → l ≡ serve_by (later_fault (take n room') (length code) true heap blocks regs budget) (take n room') code heap regs budget
        → v ≡ later_fault (take n room') (length code) true heap blocks regs budget → Answers v l
    unfolding desk_by fault_by
    desk_accepted n v l p q s =
        let same = check_numbers packet room room' c e h enough n p in
        served_as (Accepted n) v l (is_check (Accepted n) p)
        (q ∙ ap (λ (ns : List ℕ). serve_by (later_fault ns (length code) true heap blocks regs budget) ns code heap regs budget) same)
        (s ∙ ap (λ (ns : List ℕ). later_fault ns (length code) true heap blocks regs budget) same)

    desk_refused : (k place : ℕ) → c ≡ Refused k place → Answers (verdict_of k place) (desk_call (service_of k place 0 regs) code heap)
    unfolding desk_by fault_by refused_call
    desk_refused k place p = served_as (Refused k place) _ _ (is_check (Refused k place) p) refl refl

    desk_no_room : c ≡ NoRoom → Answers (verdict_of DOES_NOT_FIT 0) (desk_call (service_of DOES_NOT_FIT 0 0 regs) code heap)
    unfolding desk_by fault_by refused_call
    desk_no_room p = served_as NoRoom _ _ (is_check NoRoom p) refl refl

    pub desk_unread : (x : ReadError) → c ≡ checked_in (Err x) → Answers (fault_in (Err (fault_for x))) (desk_call (service_in (Err (fault_for x)) regs) code heap)
    desk_unread (error.Refused f) p = desk_refused (number_of f.refusal) f.place p
    desk_unread error.NoRoom p = desk_no_room p

    pub room_front : (n : ℕ) → c ≡ Accepted n → length room' ≡ length room → n ≤ length room'
    room_front n p s = omega (arith, check_count packet room room' c e h enough n p)

    pub room_front_is : (n : ℕ) → c ≡ Accepted n → length room' ≡ length room → n ≡ length (take n room')
    room_front_is n p s = sym (length-take-le n room' (room_front n p s))
