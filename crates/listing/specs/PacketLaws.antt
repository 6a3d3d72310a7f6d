-- Laws for the reader's code: one for each way through it. `gets` holds those for one number, `turns` those for the loop, and `calls` those for the call.
use Rattle.std.specs.Prelude.{ℕ, suc, ◌+◌, ◌-◌, ◌<◌, ◌≤◌, ◌≡◌, Option, Some, None, Result, Ok, Err, refl, List, set}
use native.Mathlib.Omega.{arith}
use Rattle.std.proofs.Math.Path.{sym, ap}
use Rattle.std.proofs.Common.{subst, ◌∙◌}
use Rattle.std.proofs.Math.ListN.{length}
use Rattle.choice.specs.Pick.{is_less, not_less}
use Rattle.number.specs.Found.{Found, found_in}
use Rattle.number.specs.Found.{Number, Ended, Malformed}
use Rattle.number.specs.declared.NumberError.{NumberError}
use Rattle.number.specs.declared.NumberError.TheVariants as error
use Rattle.number.specs.Number.{read_of, refusal_of, place_of}
use Rattle.number.specs.NumberLaws.{Placed, read_placed}
use Rattle.listing.specs.declared.grammar.Wanted.{Wanted}
use Rattle.listing.specs.declared.grammar.Wanted.TheVariants.{Edition}
use Rattle.listing.specs.Due.{Due, due_of}
use Rattle.listing.specs.Due.{Next, End, Refused}
use Rattle.listing.specs.Got.{Got, got_in}
use Rattle.listing.specs.declared.reading.Step.{Step}
use Rattle.refusals.specs.declared.Fault as fault
use Rattle.refusals.specs.Refusals.{number_of}
use Rattle.listing.specs.Got.{Took, Bad}
use Rattle.listing.specs.Taken.{Taken}
use Rattle.listing.specs.Taken.{Listing, Fault, NoRoom}
use Rattle.listing.specs.Limits.{BYTES, ENDED, MALFORMED, LEFT_OVER, TOO_LONG}
use Rattle.listing.specs.Grammar.{next_of}
use Rattle.listing.specs.Packet.{Reading, reading_of, due_then, found_then, got_of, end_of, stored_then, packet_from, packet_of}

-- one number, by what is due after it and by what is found
module _ (v at behind : ℕ) (d : Due) where
  then_due : (due : Option Wanted) → due_of due ≡ d → due_then d v at behind ≡ Took v behind d
  unfolding due_then
  then_due (Some w) e = rw (← e)
  then_due None e = rw (← e)

  then_refused : (number : ℕ) → d ≡ Refused number → due_then d v at behind ≡ Bad number at
  unfolding due_then
  then_refused number e = rw e

module _ (f : Found) (len at : ℕ) (w : Wanted) where
  found_number : (v behind : ℕ) → f ≡ Number v behind → found_then f len at w ≡ due_then (next_of w v) v at behind
  unfolding found_then
  found_number v behind e = rw e

  found_ended : f ≡ Ended → found_then f len at w ≡ Bad ENDED len
  unfolding found_then
  found_ended e = rw e

  found_malformed : (place : ℕ) → f ≡ Malformed place → found_then f len at w ≡ Bad MALFORMED place
  unfolding found_then
  found_malformed place e = rw e

module _ (bytes : List ℕ) (at v behind : ℕ) (w : Wanted) (e : Number v behind ≡ read_of bytes at) where
  pub got_due : (due : Option Wanted) → due_of due ≡ next_of w v → got_of bytes at w ≡ Took v behind (due_of due)
  got_due due d = found_number (read_of bytes at) (length bytes) at w v behind (sym e) ∙ then_due v at behind (next_of w v) due d ∙ ap (Took v behind) (sym d)

  pub got_refused : (number : ℕ) → Refused number ≡ next_of w v → got_of bytes at w ≡ Bad number at
  got_refused number d = found_number (read_of bytes at) (length bytes) at w v behind (sym e) ∙ then_refused v at behind (next_of w v) number (sym d)

pub got_missing : (bytes : List ℕ) (at : ℕ) (w : Wanted) (e : NumberError) → found_in (Err e) ≡ read_of bytes at
    → got_of bytes at w ≡ Bad (refusal_of bytes (found_in (Err e))) (place_of bytes (found_in (Err e)))
got_missing bytes at w error.Ended e = found_ended (read_of bytes at) (length bytes) at w (sym e)
got_missing bytes at w (error.Malformed place) e = found_malformed (read_of bytes at) (length bytes) at w place (sym e)

pub ruleset gets = (got_missing, got_due, got_refused)

-- a number that was got: the place behind it is further on, and within the packet; a fault's place is within it
unfoldable pub Behind : ℕ → ℕ → Got → Type 0
Behind at end (Took v behind d) = (at < behind) × (behind ≤ end)
Behind at end (Bad k place) = place ≤ end

due_behind : (due : Due) (v at behind end : ℕ) → at < behind → behind ≤ end → Behind at end (due_then due v at behind)
unfolding Behind due_then
due_behind (Next w) v at behind end h k = (h, k)
due_behind End v at behind end h k = (h, k)
due_behind (Refused n) v at behind end h k = omega arith

found_behind : (f : Found) (at end : ℕ) (w : Wanted) → at ≤ end → Placed at end f → Behind at end (found_then f end at w)
unfolding found_then Placed Behind
found_behind (Number v behind) at end w h p = due_behind (next_of w v) v at behind end p.0 p.1
found_behind Ended at end w h p = omega arith
found_behind (Malformed place) at end w h p = p

pub got_placed : (bytes : List ℕ) (at : ℕ) (w : Wanted) → at ≤ length bytes → Behind at (length bytes) (got_of bytes at w)
got_placed bytes at w h = found_behind (read_of bytes at) at (length bytes) w h (read_placed bytes at h)

pub got_behind : (bytes : List ℕ) (at : ℕ) (w : Wanted) (g : Got) (v behind : ℕ) (d : Due) → at ≤ length bytes → g ≡ got_of bytes at w → g ≡ Took v behind d
    → (at < behind) × (behind ≤ length bytes)
unfolding Behind
got_behind bytes at w g v behind d h e p = subst (Behind at (length bytes)) (sym e ∙ p) (got_placed bytes at w h)

-- the turns of the loop: the whole reading is what is left of it from each turn on
module _ (whole : Reading) (bytes : List ℕ) (due : Option Wanted) (at : ℕ) (numbers : List ℕ) (count : ℕ)
    (inv : whole ≡ packet_from (length bytes + 1 - count) bytes (due_of due) at numbers count) (h : count ≤ at) (k : at ≤ length bytes) where
  by_due : (d : Option Wanted) → due ≡ d → whole ≡ packet_from (suc (length bytes - count)) bytes (due_of d) at numbers count
  by_due d e =
      let one_more : length bytes + 1 - count ≡ suc (length bytes - count) = omega arith in
      inv ∙ ap (λ (n : ℕ). packet_from n bytes (due_of due) at numbers count) one_more
      ∙ ap (λ (x : Option Wanted). packet_from (suc (length bytes - count)) bytes (due_of x) at numbers count) e

  module _ (w : Wanted) (g : Result Step fault.Fault) (e : due ≡ Some w) (q : got_in g ≡ got_of bytes at w) where
    by_got : (x : Result Step fault.Fault) → g ≡ x → whole ≡ stored_then (got_in x) numbers count (packet_from (length bytes - count) bytes)
    unfolding packet_from
    by_got x p = by_due (Some w) e ∙ ap (λ (y : Got). stored_then y numbers count (packet_from (length bytes - count) bytes)) (sym q ∙ ap got_in p)

    pub turn : (s : Step) → g ≡ Ok s → whole ≡ packet_from (length bytes + 1 - (count + 1)) bytes (due_of s.due) s.behind (set numbers count s.value) (count + 1)
    unfolding stored_then
    turn s p =
        let same : length bytes - count ≡ length bytes + 1 - (count + 1) = omega arith in
        by_got (Ok s) p ∙ ap (λ (n : ℕ). packet_from n bytes (due_of s.due) s.behind (set numbers count s.value) (count + 1)) same

    pub bad_turn : (f : fault.Fault) → g ≡ Err f → whole ≡ reading_of (Fault (number_of f.refusal) f.place) numbers
    unfolding stored_then
    bad_turn f p = by_got (Err f) p

  pub left_over : due ≡ None → at < length bytes → whole ≡ reading_of (Fault LEFT_OVER at) numbers
  unfolding packet_from end_of
  left_over e l = by_due None e ∙ ap (λ (t : Taken). reading_of t numbers) (sym (is_less at (length bytes) _ _ _ l refl))

  pub at_end : due ≡ None → length bytes ≤ at → whole ≡ reading_of (Listing count) numbers
  unfolding packet_from end_of
  at_end e l = by_due None e ∙ ap (λ (t : Taken). reading_of t numbers) (sym (not_less at (length bytes) _ _ _ l refl))

pub begins : (bytes numbers : List ℕ) (due : Due) → packet_from (length bytes + 1) bytes due 0 numbers 0 ≡ packet_from (length bytes + 1 - 0) bytes due 0 numbers 0
begins bytes numbers due = ap (λ (n : ℕ). packet_from n bytes due 0 numbers 0) (omega arith)

-- the call
module _ (bytes numbers : List ℕ) where
  pub too_long : BYTES < length bytes → packet_of bytes numbers ≡ reading_of (Fault TOO_LONG 0) numbers
  unfolding packet_of
  too_long h = sym (is_less BYTES (length bytes) _ _ _ h refl)

  pub no_room : length bytes ≤ BYTES → length numbers < length bytes → packet_of bytes numbers ≡ reading_of NoRoom numbers
  unfolding packet_of
  no_room h k = sym (not_less BYTES (length bytes) _ _ _ h (is_less (length numbers) (length bytes) _ _ _ k refl))

  pub reads : length bytes ≤ BYTES → length bytes ≤ length numbers → packet_of bytes numbers ≡ packet_from (length bytes + 1) bytes (Next Edition) 0 numbers 0
  unfolding packet_of
  reads h k = sym (not_less BYTES (length bytes) _ _ _ h (not_less (length numbers) (length bytes) _ _ _ k refl))

pub ruleset calls = (too_long, no_room, reads)

pub ruleset turns = (begins, turn, bad_turn, left_over, at_end)
