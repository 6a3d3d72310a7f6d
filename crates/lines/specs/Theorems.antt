-- What the definitions of the line mean.
use Rattle.std.specs.Prelude.{ℕ, zero, suc, ◌+◌, ◌-◌, ◌*◌, ◌/◌, ◌%◌, ◌<◌, ◌≤◌, ◌≡◌, refl, List, [], ◌∷◌, ◌++◌, get_or, length, ltb, eqb}
use Rattle.std.proofs.Common.{arith, ◌∙◌}
use Rattle.choice.specs.Pick.{pick, both, if_less}
use Rattle.listing.specs.declared.grammar.Wanted.TheVariants.{Edition}
use Rattle.refusals.specs.Refusals.{Verdict}
use Rattle.listing.specs.Due.{Due, Next, End, Refused}
use Rattle.listing.specs.Got.{Got, Took, Bad}
use Rattle.listing.specs.Taken.{Taken, Listing, Fault, NoRoom}
use Rattle.listing.specs.Limits.{BYTES, LEFT_OVER, TOO_LONG}
use Rattle.listing.specs.Packet.{got_of, end_of, taken_then, taken_from, taken_of}
use Rattle.checker.specs.Checked.{Checked}
use Rattle.checker.specs.Checked as checked
use Rattle.checker.specs.Check.{verdict_in, judged_of, checked_by, check_of}
use Rattle.lines.specs.Text.{bytes_of}
use Rattle.lines.specs.Decimal.{digit_of, digits_from, decimal_of}
use Rattle.lines.specs.DecimalLaws.{decimal_one, decimal_more}
use Rattle.lines.specs.Line.{refusal_of, line_of}

-- the number that a row of digits stands for, behind others that stand for `high`
unfoldable pub value_from : ℕ → List ℕ → ℕ
value_from high [] = high
value_from high (d ∷ ds) = value_from (high * 10 + (d - 48)) ds

-- a row of digits: each from `0` to `9`
unfoldable pub Digits : List ℕ → Type 0
Digits [] = Unit {0}
Digits (d ∷ ds) = (48 ≤ d) × (d ≤ 57) × Digits ds

value_behind : (high d : ℕ) (ds : List ℕ) → value_from high (ds ++ d ∷ []) ≡ value_from high ds * 10 + (d - 48)
unfolding value_from
value_behind high d [] = refl
value_behind high d (x ∷ ds) = value_behind (high * 10 + (x - 48)) d ds

digits_behind : (d : ℕ) (ds : List ℕ) → Digits ds → 48 ≤ d → d ≤ 57 → Digits (ds ++ d ∷ [])
unfolding Digits
digits_behind d [] g h k = (h, k, tt)
digits_behind d (x ∷ ds) (a, b, g) h k = (a, b, digits_behind d ds g h k)

first_behind : (d : ℕ) (ds : List ℕ) → 48 < get_or ds 0 48 → 48 < get_or (ds ++ d ∷ []) 0 48
first_behind d [] h = absurd (omega arith)
first_behind d (x ∷ ds) h = h

-- what holds of the digits of small numbers, and of a number's digits where it does of a tenth's, holds of every number's
by_tenths : (P : ℕ → List ℕ → Type 0) → ((n : ℕ) → n < 10 → P n (digit_of n ∷ []))
    → ((n : ℕ) → 10 ≤ n → P (n / 10) (decimal_of (n / 10)) → P n (decimal_of (n / 10) ++ digit_of (n % 10) ∷ [])) → (bound n : ℕ) → n < bound → P n (decimal_of n)
by_tenths P one more zero n h = absurd (omega arith)
by_tenths P one more (suc bound) n h =
    if_less (λ (x : ℕ). P n (decimal_of n)) n 10 0 0
    (λ l. rw (← decimal_one n l) (one n l))
    (λ l. rw (← decimal_more n l) (more n l (by_tenths P one more bound (n / 10) (omega arith))))

-- the digits of a number stand for it
pub decimal_is_number : (n : ℕ) → value_from 0 (decimal_of n) ≡ n
unfolding value_from
decimal_is_number n =
    by_tenths (λ m ds. value_from 0 ds ≡ m) (λ m h. omega arith) (λ m h e. value_behind 0 (digit_of (m % 10)) (decimal_of (m / 10)) ∙ omega arith) (suc n) n (omega arith)

pub decimal_is_digits : (n : ℕ) → Digits (decimal_of n)
unfolding Digits
decimal_is_digits n =
    by_tenths (λ m ds. Digits ds) (λ m h. (omega arith, omega arith, tt)) (λ m h g. digits_behind (digit_of (m % 10)) (decimal_of (m / 10)) g (omega arith) (omega arith)) (suc n) n (omega arith)

-- no 0 stands in front, but for 0 itself
pub decimal_is_shortest : (n : ℕ) → 0 < n → 48 < get_or (decimal_of n) 0 48
decimal_is_shortest n =
    by_tenths (λ m ds. 0 < m → 48 < get_or ds 0 48) (λ m h k. omega arith) (λ m h g k. first_behind (digit_of (m % 10)) (decimal_of (m / 10)) (g (omega arith))) (suc n) n (omega arith)

-- what a line may be
pub data Printed : List ℕ → Type 0 where
  accepted : Printed (bytes_of "ACCEPTED\n")
  refused : (n p : ℕ) → Printed (refusal_of n p)

-- a packet read with room enough is a listing or has a fault
unfoldable Told : Taken → Type 0
Told (Listing n) = Unit {0}
Told (Fault k place) = Unit {0}
Told NoRoom = ⊥

told_then : (g : Got) (count : ℕ) (on : Due → ℕ → ℕ → Taken) → ((d : Due) (i j : ℕ) → Told (on d i j)) → Told (taken_then g count on)
unfolding taken_then Told
told_then (Took v behind d) count on h = h d behind (count + 1)
told_then (Bad k place) count on h = tt

told_from : (fuel : ℕ) (bytes : List ℕ) (d : Due) (at count : ℕ) → Told (taken_from fuel bytes d at count)
unfolding taken_from end_of Told
told_from zero bytes d at count = tt
told_from (suc fuel) bytes (Next w) at count = told_then (got_of bytes at w) count (taken_from fuel bytes) (told_from fuel bytes)
told_from (suc fuel) bytes End at count = both Told (ltb at (length bytes)) (Fault LEFT_OVER at) (Listing count) tt tt
told_from (suc fuel) bytes (Refused k) at count = tt

told : (packet : List ℕ) → Told (taken_of packet)
unfolding taken_of Told
told packet = both Told (ltb BYTES (length packet)) (Fault TOO_LONG 0) _ tt (told_from (length packet + 1) packet (Next Edition) 0 0)

printed_by : (t : Taken) (v : Verdict) → Told t → Printed (line_of (checked_by t v))
unfolding checked_by judged_of line_of Told
printed_by (Listing n) v h = both (λ (c : Checked). Printed (line_of c)) (eqb v.number 0) (checked.Accepted n) (checked.Refused v.number v.place) accepted (refused v.number v.place)
printed_by (Fault k place) v h = refused k place
printed_by NoRoom v h = absurd h

-- every packet has a line
pub packet_has_line : (packet : List ℕ) → Printed (line_of (check_of packet))
unfolding check_of
packet_has_line packet = printed_by (taken_of packet) (verdict_in packet) (told packet)

-- some lines as they are printed
pub printed_lines : (line_of (checked.Accepted 70) ≡ bytes_of "ACCEPTED\n")
    × (line_of (checked.Refused 15 6) ≡ bytes_of "REFUSED 15 AT 6\n")
    × (line_of (checked.Refused 5 70) ≡ bytes_of "REFUSED 5 AT 70\n")
    × (line_of (checked.Refused 6 0) ≡ bytes_of "REFUSED 6 AT 0\n")
    × (line_of (checked.Refused 1 65536) ≡ bytes_of "REFUSED 1 AT 65536\n")
unfolding line_of refusal_of decimal_of digits_from pick
printed_lines = (refl, refl, refl, refl, refl)
