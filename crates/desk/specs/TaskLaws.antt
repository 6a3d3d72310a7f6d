-- Laws of the tasks for the proofs of their code, one for each way through it: by what the checker says, by the task, and of each call as its task.
use Rattle.std.specs.Prelude.{ℕ, ◌^◌, ◌<◌, ◌≤◌, ◌≡◌, Err, length, take, eqb}
use Rattle.std.proofs.Common.{arith, ◌∙◌, length-take-le}
use Rattle.std.proofs.Math.Path.{refl, sym, ap, subst}
use mathlib.Core.List.{List}
use Rattle.choice.specs.Pick.{each_way, is_equal, not_equal}
use Rattle.listing.specs.Limits.{BYTES, TOO_LONG}
use Rattle.listing.specs.Packet.{numbers_in, taken_of}
use Rattle.listing.specs.Parts.{items_in, listing_in}
use Rattle.listing.specs.Theorems.{taken_is_listed}
use Rattle.refusals.specs.Refusals.{number_of}
use Rattle.listing.specs.declared.reading.ReadError.{ReadError}
use Rattle.listing.specs.declared.reading.ReadError.TheVariants as error
use Rattle.checker.specs.Checked.{Checked, Accepted, Refused, NoRoom, checked_in}
use Rattle.checker.specs.Check.{verdict_in, checking_of, check_in, check_of}
use Rattle.checker.specs.CheckLaws.{accepted_taken, check_answer, check_count, check_numbers, check_place}
use Rattle.start.specs.Start.{first_listed}
use Rattle.start.specs.ListedLaws.{Indexed, listing_indexed}
use Rattle.service.specs.Numbers.{DOES_NOT_FIT}
use Rattle.service.specs.DeskLaws.{too_long}
use Rattle.desk.specs.Bytes.{words_of}
use Rattle.desk.specs.Answer.{answer_of}
use Rattle.desk.specs.PacketCall.{PacketCall, packet_call}
use Rattle.desk.specs.LentCall.{LentCall, lent_call, beside}
use Rattle.desk.specs.ReadCall.{vans_read_of}
use Rattle.desk.specs.ReadCallLaws.{reads_too_long}
use Rattle.desk.specs.CheckCall.{NearPlace, answer_by, vans_check_of}
use Rattle.desk.specs.EraseCall.{erased_out, erase_by, vans_erase_of}
use Rattle.desk.specs.VansDesk.{refused_bytes, serve_bytes, bytes_fault, vans_desk_by, vans_desk_of}
use Rattle.desk.specs.Tasks.{checked_task, accepted_task, task_of}
use Rattle.desk.specs.declared.tasks.Task.{Task}
use Rattle.desk.specs.declared.tasks.Task.TheVariants.{Read, Check, Erase, Desk}
use Rattle.desk.specs.Calls.{task_number}

-- the number of a task
module _ (task : Task) where
  pub is_read : task ≡ Read → task_number task ≡ 0
  is_read e = ap task_number e

  pub is_check : task ≡ Check → task_number task ≡ 1
  is_check e = ap task_number e

  pub is_erase : task ≡ Erase → task_number task ≡ 2
  is_erase e = ap task_number e

  pub erase_not_check : task ≡ Erase → task_number task ≡ 1 → ⊥
  erase_not_check e q = absurd (omega (arith, q, is_erase e))

pub not_read : (task : Task) → (task ≡ Read → ⊥) → task_number task ≡ 0 → ⊥
not_read Read n e = n refl
not_read Check n e = absurd (omega arith)
not_read Erase n e = absurd (omega arith)
not_read Desk n e = absurd (omega arith)

pub not_check : (task : Task) → (task ≡ Check → ⊥) → task_number task ≡ 1 → ⊥
not_check Read n e = absurd (omega arith)
not_check Check n e = n refl
not_check Erase n e = absurd (omega arith)
not_check Desk n e = absurd (omega arith)

pub not_erase : (task : Task) → (task ≡ Erase → ⊥) → task_number task ≡ 2 → ⊥
not_erase Read n e = absurd (omega arith)
not_erase Check n e = absurd (omega arith)
not_erase Erase n e = n refl
not_erase Desk n e = absurd (omega arith)

module _ (task : ℕ) (out heap blocks regs : List ℕ) (budget : ℕ) where
  -- with a refusal nothing changes, whatever the task
  refused_is : (k place : ℕ) (ns : List ℕ) → lent_call (answer_of k place 0) out heap regs ≡ checked_task task (Refused k place) ns out heap blocks regs budget
  unfolding checked_task answer_by erase_by vans_desk_by refused_bytes
  refused_is k place ns =
      let Goal : LentCall → Type 0 = λ (l : LentCall). lent_call (answer_of k place 0) out heap regs ≡ l in
      each_way Goal (eqb task 1) _ _ (λ q. refl) (λ q. each_way Goal (eqb task 2) _ _ (λ p. refl) (λ p. refl))

  no_room_is : (ns : List ℕ) → lent_call (answer_of DOES_NOT_FIT 0 0) out heap regs ≡ checked_task task NoRoom ns out heap blocks regs budget
  unfolding checked_task answer_by erase_by vans_desk_by
  no_room_is ns = refused_is DOES_NOT_FIT 0 ns

  -- an accepted packet's numbers, by the task
  module _ (ns : List ℕ) (a : ℕ) (out' : List ℕ) where
    pub accepted_checks : task ≡ 1 → a ≡ answer_of 0 0 0 → lent_call a out heap regs ≡ accepted_task task ns out heap blocks regs budget
    unfolding checked_task answer_by
    accepted_checks h p = is_equal task 1 _ _ _ h (ap (λ (x : ℕ). lent_call x out heap regs) p)

    pub accepted_erases : (task ≡ 1 → ⊥) → task ≡ 2 → packet_call a out' ≡ erased_out (items_in ns) out → lent_call a out' heap regs ≡ accepted_task task ns out heap blocks regs budget
    unfolding checked_task erase_by
    accepted_erases h k p = not_equal task 1 _ _ _ h (is_equal task 2 _ _ _ k (ap (λ (c : PacketCall). beside c heap regs) p))

    pub accepted_serves : (l : LentCall) → (task ≡ 1 → ⊥) → (task ≡ 2 → ⊥) → l ≡ serve_bytes (bytes_fault ns out heap blocks regs budget) ns (words_of heap) (words_of regs) out heap regs budget
        → l ≡ accepted_task task ns out heap blocks regs budget
    unfolding checked_task vans_desk_by
    accepted_serves l h k p = not_equal task 1 _ _ _ h (not_equal task 2 _ _ _ k p)

  -- and how many there are does not matter
  count_is : (n m : ℕ) (ns : List ℕ) → checked_task task (Accepted n) ns out heap blocks regs budget ≡ checked_task task (Accepted m) ns out heap blocks regs budget
  unfolding checked_task answer_by erase_by vans_desk_by
  count_is n m ns = refl

pub ruleset accepteds = (refl, is_check, is_erase, erase_not_check, not_check, not_erase, accepted_checks, accepted_erases, accepted_serves)

-- by what the checker says of a packet in a room that is large enough
module _ (packet room room' : List ℕ) (c : Checked) (e : checking_of c room' ≡ check_in packet room) (h : length packet ≤ BYTES) (k : length packet ≤ length room) where
  checks_as : (x : Checked) → c ≡ x → x ≡ check_of packet
  checks_as x p = sym p ∙ check_answer packet room room' c e h k

  refused_small : (number place : ℕ) → c ≡ Refused number place → place < 2 ^ 24
  refused_small number place p = omega (arith, check_place packet room room' c e h k number place p)

  pub error_near : (x : ReadError) → c ≡ checked_in (Err x) → NearPlace x
  error_near (error.Refused f) p = refused_small (number_of f.refusal) f.place p
  error_near error.NoRoom p = tt

  pub front_in_room : (n : ℕ) → c ≡ Accepted n → length room' ≡ length room → n ≤ length room'
  front_in_room n p s = omega (arith, check_count packet room room' c e h k n p)

  pub front_is : (n : ℕ) → c ≡ Accepted n → length room' ≡ length room → n ≡ length (take n room')
  front_is n p s = sym (length-take-le n room' (front_in_room n p s))

  -- the registers that an accepted listing's first label lists
  pub accepted_indexed : (n : ℕ) → c ≡ Accepted n → Indexed (first_listed (take n room'))
  unfolding check_of
  accepted_indexed n p =
      let taken = (accepted_taken (verdict_in packet) n (taken_of packet) (checks_as (Accepted n) p)).0 in
      subst (λ (ns : List ℕ). Indexed (first_listed ns)) (sym (check_numbers packet room room' c e h k n p)) (listing_indexed (listing_in (numbers_in packet)) (taken_is_listed packet n taken).0)

  module _ (task : ℕ) (out heap blocks regs : List ℕ) (budget : ℕ) where
    abbrev whole : Checked → LentCall
    whole x = checked_task task x (numbers_in packet) out heap blocks regs budget

    pub checked_accepted : (n : ℕ) (l : LentCall) → c ≡ Accepted n → l ≡ accepted_task task (take n room') out heap blocks regs budget → l ≡ checked_task task (check_of packet) (numbers_in packet) out heap blocks regs budget
    checked_accepted n l p q =
        q
        ∙ count_is task out heap blocks regs budget (length (take n room')) n (take n room')
        ∙ ap (λ (ns : List ℕ). checked_task task (Accepted n) ns out heap blocks regs budget) (check_numbers packet room room' c e h k n p)
        ∙ ap whole (checks_as (Accepted n) p)

    checked_refused : (number place a : ℕ) → c ≡ Refused number place → a ≡ answer_of number place 0
        → lent_call a out heap regs ≡ checked_task task (check_of packet) (numbers_in packet) out heap blocks regs budget
    checked_refused number place a p q =
        ap (λ (x : ℕ). lent_call x out heap regs) q ∙ refused_is task out heap blocks regs budget number place (numbers_in packet) ∙ ap whole (checks_as (Refused number place) p)

    checked_no_room : (a : ℕ) → c ≡ NoRoom → a ≡ answer_of DOES_NOT_FIT 0 0 → lent_call a out heap regs ≡ checked_task task (check_of packet) (numbers_in packet) out heap blocks regs budget
    checked_no_room a p q =
        ap (λ (x : ℕ). lent_call x out heap regs) q ∙ no_room_is task out heap blocks regs budget (numbers_in packet) ∙ ap whole (checks_as NoRoom p)

    pub checked_unread : (x : ReadError) (a : ℕ) → c ≡ checked_in (Err x) → a ≡ answer_by (checked_in (Err x))
        → lent_call a out heap regs ≡ checked_task task (check_of packet) (numbers_in packet) out heap blocks regs budget
    unfolding answer_by
    checked_unread (error.Refused f) a p q = checked_refused (number_of f.refusal) f.place a p q
    checked_unread error.NoRoom a p q = checked_no_room a p q

pub ruleset checkings = (refl, error_near, front_in_room, front_is, accepted_indexed, checked_accepted, checked_unread)

-- the tasks
module _ (task : ℕ) (packet out heap blocks regs : List ℕ) (budget : ℕ) where
  pub task_reads : (a : ℕ) (out' : List ℕ) → task ≡ 0 → packet_call a out' ≡ vans_read_of packet out → lent_call a out' heap regs ≡ task_of task packet out heap blocks regs budget
  unfolding task_of
  task_reads a out' h p = is_equal task 0 _ _ _ h (ap (λ (c : PacketCall). beside c heap regs) p)

  pub task_checked : (l : LentCall) → (task ≡ 0 → ⊥) → l ≡ checked_task task (check_of packet) (numbers_in packet) out heap blocks regs budget → l ≡ task_of task packet out heap blocks regs budget
  unfolding task_of
  task_checked l h p = not_equal task 0 _ _ _ h p

  -- a packet over the limit
  pub task_too_long : (a : ℕ) → BYTES < length packet → a ≡ answer_of TOO_LONG 0 0 → lent_call a out heap regs ≡ task_of task packet out heap blocks regs budget
  unfolding task_of
  task_too_long a h q =
      each_way (λ (l : LentCall). lent_call a out heap regs ≡ l) (eqb task 0) _ _
      (λ p. ap (λ (c : PacketCall). beside c heap regs) (reads_too_long packet out (packet_call a out) a h q refl))
      (λ p.
      ap (λ (x : ℕ). lent_call x out heap regs) q
      ∙ refused_is task out heap blocks regs budget TOO_LONG 0 (numbers_in packet)
      ∙ ap (λ (x : Checked). checked_task task x (numbers_in packet) out heap blocks regs budget) (too_long packet h))

pub ruleset tasks = (refl, is_read, not_read, task_reads, task_checked, task_too_long)

-- each call is its task
module _ (packet out heap blocks regs : List ℕ) (budget task a : ℕ) (out' heap' regs' : List ℕ) (e : lent_call a out' heap' regs' ≡ task_of task packet out heap blocks regs budget) where
  abbrev as_packet : LentCall → PacketCall
  as_packet l = packet_call l.answer l.code

  pub call_reads : task ≡ 0 → packet_call a out' ≡ vans_read_of packet out
  unfolding task_of
  call_reads h = ap as_packet (e ∙ sym (is_equal task 0 _ _ _ h refl))

  pub call_checks : task ≡ 1 → a ≡ vans_check_of packet
  unfolding task_of checked_task vans_check_of
  call_checks h = ap (λ (l : LentCall). l.answer) (e ∙ sym (not_equal task 0 _ _ _ (λ z. omega arith) (is_equal task 1 _ _ _ h refl)))

  pub call_erases : task ≡ 2 → packet_call a out' ≡ vans_erase_of packet out
  unfolding task_of checked_task vans_erase_of
  call_erases h = ap as_packet (e ∙ sym (not_equal task 0 _ _ _ (λ z. omega arith) (not_equal task 1 _ _ _ (λ z. omega arith) (is_equal task 2 _ _ _ h refl))))

  pub call_serves : task ≡ 3 → lent_call a out' heap' regs' ≡ vans_desk_of packet out heap blocks regs budget
  unfolding task_of checked_task vans_desk_of
  call_serves h = e ∙ sym (not_equal task 0 _ _ _ (λ z. omega arith) (not_equal task 1 _ _ _ (λ z. omega arith) (not_equal task 2 _ _ _ (λ z. omega arith) refl)))

pub ruleset calls = (refl, call_reads, call_checks, call_erases, call_serves)
