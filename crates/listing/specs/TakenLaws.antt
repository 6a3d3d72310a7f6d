-- What the reader leaves in a buffer, by the packet alone: its numbers in order in front, the old words behind. And what it answers lies within the packet.
use Prim.Native.Nat.{ℕ, zero, suc, ◌+◌, ◌≤◌, zero-le}
use Rattle.std.proofs.Common.{le_refl, add-zero, add-one, arith, ◌∙◌}
use Rattle.std.specs.Prelude.{◌≡◌, refl, List, [], ◌∷◌, ltb, set, drop}
use Rattle.std.proofs.Math.Path.{sym, ap, subst}
use Rattle.std.proofs.Math.ListN.{length, take}
use Rattle.std.proofs.lemmas.List.Edits.{sets, sets-eq}
use Rattle.std.proofs.Math.Seq.{take_at}
use Rattle.choice.specs.Pick.{both, not_less}
use Rattle.listing.specs.declared.grammar.Wanted.TheVariants.{Edition}
use Rattle.listing.specs.Due.{Due}
use Rattle.listing.specs.Due.{Next, End, Refused}
use Rattle.listing.specs.Got.{Got}
use Rattle.listing.specs.Got.{Took, Bad}
use Rattle.listing.specs.Taken.{Taken}
use Rattle.listing.specs.Taken.{Listing, Fault, NoRoom}
use Rattle.listing.specs.Limits.{BYTES}
use Rattle.listing.specs.Packet.{Reading, reading_of, got_of, end_of, stored_then, packet_from, packet_of, numbers_then, numbers_from, taken_then, taken_from, numbers_in, taken_of}
use Rattle.listing.specs.PacketLaws.{Behind, got_placed}

-- the buffer, number by number
stored_taken : (g : Got) (numbers : List ℕ) (count : ℕ) (on : Due → ℕ → List ℕ → ℕ → Reading) (ns : Due → ℕ → List ℕ) (ts : Due → ℕ → ℕ → Taken)
    → ((due : Due) (at : ℕ) (b : List ℕ) (n : ℕ) → on due at b n ≡ reading_of (ts due at n) (sets b n (ns due at)))
    → stored_then g numbers count on ≡ reading_of (taken_then g count ts) (sets numbers count (numbers_then g ns))
unfolding stored_then taken_then numbers_then
stored_taken (Took v behind d) numbers count on ns ts h =
    h d behind (set numbers count v) (count + 1)
    ∙ ap (λ (n : ℕ). reading_of (ts d behind (count + 1)) (sets (set numbers count v) n (ns d behind))) (add-one count)
stored_taken (Bad k place) numbers count on ns ts h = refl

pub packet_taken : (fuel : ℕ) (bytes : List ℕ) (due : Due) (at : ℕ) (numbers : List ℕ) (count : ℕ)
    → packet_from fuel bytes due at numbers count ≡ reading_of (taken_from fuel bytes due at count) (sets numbers count (numbers_from fuel bytes due at))
unfolding packet_from taken_from numbers_from
packet_taken zero bytes due at numbers count = refl
packet_taken (suc fuel) bytes (Next w) at numbers count =
    stored_taken (got_of bytes at w) numbers count (packet_from fuel bytes) (numbers_from fuel bytes) (taken_from fuel bytes) (packet_taken fuel bytes)
packet_taken (suc fuel) bytes End at numbers count = refl
packet_taken (suc fuel) bytes (Refused k) at numbers count = refl

-- a fault's place lies within the packet, and so does the count of its numbers, which is how many numbers there are
unfoldable pub Within : ℕ → ℕ → List ℕ → Taken → Type 0
Within end count ns (Listing n) = (n ≤ end) × (n ≡ count + length ns)
Within end count ns (Fault k place) = place ≤ end
Within end count ns NoRoom = Unit {0}

end_within : (end at count : ℕ) → count ≤ at → at ≤ end → Within end count [] (end_of end at count)
unfolding Within end_of
end_within end at count h k = both (Within end count []) (ltb at end) _ _ k (omega arith, sym (add-zero count))

one_more_within : (end count v : ℕ) (ns : List ℕ) (t : Taken) → Within end (count + 1) ns t → Within end count (v ∷ ns) t
unfolding Within
one_more_within end count v ns (Listing n) p = (p.0, omega arith)
one_more_within end count v ns (Fault k place) p = p
one_more_within end count v ns NoRoom p = p

then_within : (g : Got) (end at count : ℕ) (ns : Due → ℕ → List ℕ) (ts : Due → ℕ → ℕ → Taken) → count ≤ at → Behind at end g
    → ((due : Due) (a n : ℕ) → n ≤ a → a ≤ end → Within end n (ns due a) (ts due a n))
    → Within end count (numbers_then g ns) (taken_then g count ts)
unfolding Behind taken_then numbers_then Within
then_within (Took v behind d) end at count ns ts h b p =
    one_more_within end count v (ns d behind) (ts d behind (count + 1)) (p d behind (count + 1) (omega arith) b.1)
then_within (Bad k place) end at count ns ts h b p = b

pub taken_within : (fuel : ℕ) (bytes : List ℕ) (due : Due) (at count : ℕ) → count ≤ at → at ≤ length bytes
    → Within (length bytes) count (numbers_from fuel bytes due at) (taken_from fuel bytes due at count)
unfolding taken_from numbers_from Within
taken_within zero bytes due at count h k = le_refl (length bytes)
taken_within (suc fuel) bytes (Next w) at count h k =
    then_within (got_of bytes at w) (length bytes) at count (numbers_from fuel bytes) (taken_from fuel bytes) h (got_placed bytes at w k) (taken_within fuel bytes)
taken_within (suc fuel) bytes End at count h k = end_within (length bytes) at count h k
taken_within (suc fuel) bytes (Refused n) at count h k = k

-- for a caller: a packet that is read into room enough for it
module _ (bytes room room' : List ℕ) (t : Taken) (e : reading_of t room' ≡ packet_of bytes room) (h : length bytes ≤ BYTES) (k : length bytes ≤ length room) where
  read_all : reading_of t room' ≡ reading_of (taken_of bytes) (sets room 0 (numbers_in bytes))
  unfolding packet_of taken_of numbers_in
  read_all =
      e
      ∙ sym (not_less BYTES (length bytes) _ _ _ h (not_less (length room) (length bytes) _ _ _ k refl))
      ∙ packet_taken (length bytes + 1) bytes (Next Edition) 0 room 0
      ∙ ap (λ (x : Taken). reading_of x (sets room 0 (numbers_from (length bytes + 1) bytes (Next Edition) 0))) (not_less BYTES (length bytes) _ _ _ h refl)

  pub read_taken : t ≡ taken_of bytes
  read_taken = ap (λ (r : Reading). r.taken) read_all

  all_within : Within (length bytes) 0 (numbers_in bytes) (taken_of bytes)
  unfolding taken_of numbers_in
  all_within =
      subst (Within (length bytes) 0 (numbers_from (length bytes + 1) bytes (Next Edition) 0)) (not_less BYTES (length bytes) _ _ _ h refl)
      (taken_within (length bytes + 1) bytes (Next Edition) 0 0 zero-le zero-le)

  pub read_count : (n : ℕ) → t ≡ Listing n → n ≤ length bytes
  unfolding Within
  read_count n p = (subst (Within (length bytes) 0 (numbers_in bytes)) (sym read_taken ∙ p) all_within).0

  pub read_place : (number place : ℕ) → t ≡ Fault number place → place ≤ length bytes
  unfolding Within
  read_place number place p = subst (Within (length bytes) 0 (numbers_in bytes)) (sym read_taken ∙ p) all_within

  -- the listing's numbers stand in front of the room
  pub read_numbers : (n : ℕ) → t ≡ Listing n → take n room' ≡ numbers_in bytes
  unfolding Within
  read_numbers n p =
      let all : n ≡ 0 + length (numbers_in bytes) = (subst (Within (length bytes) 0 (numbers_in bytes)) (sym read_taken ∙ p) all_within).1 in
      let fits : n ≤ length bytes = read_count n p in
      ap (λ (r : Reading). take n r.numbers) read_all
      ∙ ap (take n) (sets-eq (numbers_in bytes) room 0 (omega arith))
      ∙ take_at (numbers_in bytes) (drop (0 + length (numbers_in bytes)) room) n (omega arith)
