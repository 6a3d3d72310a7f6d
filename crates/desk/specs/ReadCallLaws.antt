-- Laws of vans_read for the proofs of its code: one for each way through it. `hands` holds those for the numbers, `reads` those by what the packet is.
use Rattle.std.specs.Prelude.{ℕ, ◌*◌, ◌/◌, ◌^◌, ◌<◌, ◌≤◌, ◌≡◌, refl, Err, length, take, drop}
use Rattle.std.proofs.Common.{arith, sym, ◌∙◌, length-take-le}
use Rattle.std.proofs.Math.Path.{ap}
use mathlib.Core.List.{List, ◌++◌}
use Rattle.choice.specs.Pick.{is_less, not_less}
use Rattle.listing.specs.Taken.{Taken, Listing, Fault, NoRoom, taken_in}
use Rattle.listing.specs.Limits.{BYTES, TOO_LONG}
use Rattle.listing.specs.Packet.{reading_of, packet_of, numbers_in, taken_of}
use Rattle.listing.specs.TakenLaws.{read_taken, read_count, read_place, read_numbers}
use Rattle.service.specs.Numbers.{DOES_NOT_FIT}
use Rattle.desk.specs.Bytes.{bytes_of}
use Rattle.desk.specs.ByteLaws.{words_in_front}
use Rattle.desk.specs.Answer.{answer_of}
use Rattle.desk.specs.PacketCall.{PacketCall, packet_call}
use Rattle.refusals.specs.Refusals.{number_of}
use Rattle.listing.specs.declared.reading.ReadError.{ReadError}
use Rattle.listing.specs.declared.reading.ReadError.TheVariants as error
use Rattle.checker.specs.Checked.{checked_in}
use Rattle.desk.specs.CheckCall.{NearPlace, answer_by}
use Rattle.desk.specs.ReadCall.{handed_of, by_taken, vans_read_of}

-- numbers handed over
module _ (ns out : List ℕ) (a : ℕ) where
  pub hands_not : length out / 4 < length ns → a ≡ answer_of DOES_NOT_FIT (length ns) 0 → packet_call a out ≡ handed_of ns (length ns) out
  unfolding handed_of
  hands_not h p = is_less (length out / 4) (length ns) _ _ _ h (ap (λ (x : ℕ). packet_call x out) p)

  pub hands_over : (out' : List ℕ) → length ns ≤ length out / 4 → out' ≡ bytes_of ns ++ drop (length ns * 4) out → a ≡ answer_of 0 0 (length ns) → packet_call a out' ≡ handed_of ns (length ns) out
  unfolding handed_of
  hands_over out' h q p = not_less (length out / 4) (length ns) _ _ _ h (rw (p, q))

pub ruleset hands = (refl, words_in_front, hands_not, hands_over)

-- a count fits the room and a place the answer
module _ (packet room room' : List ℕ) (t : Taken) (e : reading_of t room' ≡ packet_of packet room) (h : length packet ≤ BYTES) (k : length packet ≤ length room) where
  pub count_in_room : (n : ℕ) → t ≡ Listing n → length room' ≡ length room → n ≤ length room'
  count_in_room n p s = omega (arith, read_count packet room room' t e h k n p)

  pub count_is : (n : ℕ) → t ≡ Listing n → length room' ≡ length room → n ≡ length (take n room')
  count_is n p s = sym (length-take-le n room' (count_in_room n p s))

  pub count_in_packet : (n : ℕ) → t ≡ Listing n → length room' ≡ length room → length (take n room') ≤ BYTES
  count_in_packet n p s = omega (arith, count_is n p s, read_count packet room room' t e h k n p)

  place_small : (number place : ℕ) → t ≡ Fault number place → place < 2 ^ 24
  place_small number place p = omega (arith, read_place packet room room' t e h k number place p)

  pub error_near : (x : ReadError) → t ≡ taken_in (Err x) → NearPlace x
  error_near (error.Refused f) p = place_small (number_of f.refusal) f.place p
  error_near error.NoRoom p = tt

-- by what the packet is
module _ (packet numbers : List ℕ) (c : PacketCall) where
  as_taken : (t : Taken) → taken_of packet ≡ t → c ≡ by_taken t (numbers_in packet) numbers → c ≡ vans_read_of packet numbers
  unfolding vans_read_of
  as_taken t e p = p ∙ ap (λ (x : Taken). by_taken x (numbers_in packet) numbers) (sym e)

  module _ (room room' : List ℕ) (t : Taken) (e : reading_of t room' ≡ packet_of packet room) (h : length packet ≤ BYTES) (k : length packet ≤ length room) where
    pub reads_listing : (n : ℕ) → t ≡ Listing n → length room' ≡ length room → c ≡ handed_of (take n room') (length (take n room')) numbers → c ≡ vans_read_of packet numbers
    unfolding by_taken
    reads_listing n p s q =
        as_taken (Listing n) (sym (read_taken packet room room' t e h k) ∙ p)
        (q
        ∙ ap (λ (m : ℕ). handed_of (take n room') m numbers) (sym (count_is packet room room' t e h k n p s))
        ∙ ap (λ (ns : List ℕ). handed_of ns n numbers) (read_numbers packet room room' t e h k n p))

    reads_fault : (a number place : ℕ) → t ≡ Fault number place → a ≡ answer_of number place 0 → c ≡ packet_call a numbers → c ≡ vans_read_of packet numbers
    unfolding by_taken
    reads_fault a number place p q s =
        as_taken (Fault number place) (sym (read_taken packet room room' t e h k) ∙ p) (s ∙ ap (λ (x : ℕ). packet_call x numbers) q)

    reads_no_room : (a : ℕ) → t ≡ NoRoom → a ≡ answer_of DOES_NOT_FIT 0 0 → c ≡ packet_call a numbers → c ≡ vans_read_of packet numbers
    unfolding by_taken
    reads_no_room a p q s =
        as_taken NoRoom (sym (read_taken packet room room' t e h k) ∙ p) (s ∙ ap (λ (x : ℕ). packet_call x numbers) q)

    pub reads_unread : (x : ReadError) (a : ℕ) → t ≡ taken_in (Err x) → a ≡ answer_by (checked_in (Err x)) → c ≡ packet_call a numbers → c ≡ vans_read_of packet numbers
    unfolding answer_by
    reads_unread (error.Refused f) a p q s = reads_fault a (number_of f.refusal) f.place p q s
    reads_unread error.NoRoom a p q s = reads_no_room a p q s

  pub reads_too_long : (a : ℕ) → BYTES < length packet → a ≡ answer_of TOO_LONG 0 0 → c ≡ packet_call a numbers → c ≡ vans_read_of packet numbers
  unfolding taken_of by_taken
  reads_too_long a h q s =
      as_taken (Fault TOO_LONG 0) (sym (is_less BYTES (length packet) _ _ _ h refl)) (s ∙ ap (λ (x : ℕ). packet_call x numbers) q)

pub ruleset reads = (refl, count_in_room, count_is, count_in_packet, error_near, reads_listing, reads_unread)
