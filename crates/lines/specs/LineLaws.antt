-- Laws of the line for the proofs of its code: what a packet is, by the length that is required of it; a refusal's line by its parts, and the line of a packet in front of a buffer.
use Rattle.std.specs.Prelude.{ℕ, ◌+◌, ◌^◌, ◌<◌, ◌≤◌, ◌≡◌, refl, List, ◌++◌, drop, Result, Ok, Err, leb}
use Rattle.std.proofs.Common.{leb-true, leb-false, arith, sym, ◌∙◌, append_assoc, length-append, length-take-le}
use Rattle.std.proofs.Math.Path.{ap}
use Rattle.std.proofs.Math.ListN.{length}
use Rattle.std.proofs.lemmas.List.Edits.{sets-eq}
use Rattle.choice.specs.Pick.{pick, is_less, each_way}
use Rattle.refusals.specs.declared.Refusal.TheVariants.{TooLong}
use Rattle.listing.specs.declared.reading.ReadError.{ReadError}
use Rattle.listing.specs.declared.reading.ReadError.TheVariants as error
use Rattle.listing.specs.Taken.{Taken, Fault}
use Rattle.listing.specs.Limits.{BYTES, TOO_LONG}
use Rattle.listing.specs.Packet.{taken_of}
use Rattle.checker.specs.Checked.{Checked, Refused, NoRoom, checked_in}
use Rattle.checker.specs.Check.{verdict_in, checked_by, checking_of, check_in, check_of}
use Rattle.checker.specs.CheckLaws.{check_answer}
use Rattle.lines.specs.Text.{bytes_of}
use Rattle.lines.specs.Decimal.{decimal_of}
use Rattle.lines.specs.DecimalLaws.{digits_below}
use Rattle.lines.specs.Line.{refusal_of, line_of, Written, written, in_front, line_in, Front, LONGEST}
use Rattle.lines.specs.Put.{put_of}
use Rattle.lines.specs.PutLaws.{behind}

-- what a packet is: 6 where it is too long, else what the checker answers in a room for any packet
module _ (packet : List ℕ) (r : Checked) where
  verdict_long : BYTES < length packet → r ≡ Refused TOO_LONG 0 → r ≡ check_of packet
  unfolding check_of checked_by taken_of
  verdict_long h p = p ∙ ap (λ (t : Taken). checked_by t (verdict_in packet)) (is_less BYTES (length packet) (Fault TOO_LONG 0) _ _ h refl)

  pub verdict_in_room : (room room' : List ℕ) → checking_of r room' ≡ check_in packet room → length packet ≤ BYTES → length room ≡ BYTES → r ≡ check_of packet
  verdict_in_room room room' e h k = check_answer packet room room' r e h (omega arith)

-- what is so where the length that is required of a packet holds, and where it fails
module _ (packet : List ℕ) where
  abbrev required : Result (Unit {0}) ReadError
  required = pick (leb (length packet) BYTES) (Ok (tt {0})) (Err (error.Refused record { refusal = TooLong; place = 0 }))

  -- a refusal as the answer says it; nothing else is asked of it
  said : Result (Unit {0}) ReadError → Checked
  said (Ok u) = NoRoom
  said (Err x) = checked_in (Err x)

  pub required_holds : (u : Unit {0}) → Ok u ≡ required → length packet ≤ BYTES
  required_holds u e =
      each_way (λ (v : Result (Unit {0}) ReadError). Ok u ≡ v → length packet ≤ BYTES) (leb (length packet) BYTES) _ _ (λ t q. leb-true (length packet) BYTES t) (λ t q. absurd (cc)) e

  pub required_fails : (x : ReadError) → Err x ≡ required → checked_in (Err x) ≡ check_of packet
  unfolding said
  required_fails x e =
      each_way
      (λ (v : Result (Unit {0}) ReadError). Err x ≡ v → checked_in (Err x) ≡ check_of packet)
      (leb (length packet) BYTES)
      _
      _
      (λ t q. absurd (cc))
      (λ t q. verdict_long packet (checked_in (Err x)) (leb-false (length packet) BYTES t) (ap said q))
      e

-- the length of a refusal's line
refusal_length : (n p : ℕ) → n < 2 ^ 8 → p < 2 ^ 64 → length (refusal_of n p) ≤ LONGEST
unfolding refusal_of
refusal_length n p h k = simp length-append (omega (arith, digits_below 2 n (omega arith), digits_below 19 p (omega arith)))

-- a refusal's line, part by part
module _ (out out₁ out₂ out₃ : List ℕ) (a₁ a₂ a₃ n p : ℕ) (e₁ : written a₁ out₁ ≡ put_of out 0 (bytes_of "REFUSED " ++ decimal_of n)) (e₂ : written a₂ out₂ ≡ put_of out₁ a₁ (bytes_of " AT " ++ decimal_of p)) (e₃ : written a₃ out₃ ≡ put_of out₂ a₂ (bytes_of "\n")) where
  put_parts : written a₃ out₃ ≡ put_of out 0 (refusal_of n p)
  unfolding refusal_of
  put_parts =
      behind out out₂ out₃ 0 a₂ a₃ (bytes_of "REFUSED " ++ decimal_of n ++ bytes_of " AT " ++ decimal_of p) (bytes_of "\n")
      (behind out out₁ out₂ 0 a₁ a₂ (bytes_of "REFUSED " ++ decimal_of n) (bytes_of " AT " ++ decimal_of p) e₁ e₂
      ∙ ap (put_of out 0) (sym (append_assoc (bytes_of "REFUSED " ++ decimal_of n) (bytes_of " AT ") (decimal_of p))))
      e₃

  pub refusal_put : (number : ℕ) → n ≡ number → written a₃ out₃ ≡ put_of out 0 (refusal_of number p)
  refusal_put number e = put_parts ∙ ap (λ (m : ℕ). put_of out 0 (refusal_of m p)) e

  pub refusal_near : n < 2 ^ 8 → p < 2 ^ 64 → a₃ ≤ LONGEST
  unfolding put_of
  refusal_near h k =
      let same : a₃ ≡ 0 + length (refusal_of n p) = ap (λ (w : Written). w.end) put_parts in omega (arith, same, refusal_length n p h k)

-- what is put into a buffer from its front, where it fits, stands there
pub whole_line : (packet out out' : List ℕ) (r : ℕ) (v : Checked) → v ≡ check_of packet → written r out' ≡ put_of out 0 (line_of v) → r ≤ LONGEST → length out ≡ LONGEST
    → written r out' ≡ line_in packet out
unfolding line_in put_of
whole_line packet out out' r v q e h k =
    let same : r ≡ 0 + length (line_of v) = ap (λ (w : Written). w.end) e in
    let from_front : 0 + length (line_of v) ≡ length (line_of v) = omega arith in
    e
    ∙ ap (written (0 + length (line_of v))) (sets-eq (line_of v) out 0 (omega arith))
    ∙ ap (λ (k : ℕ). written k (line_of v ++ drop k out)) from_front
    ∙ ap (λ (x : Checked). in_front (line_of x) out) q

-- a number of bytes that a buffer has stands in its front
pub front : (out : List ℕ) (n : ℕ) → n ≤ length out → Front n out
front out n h = (h, sym (length-take-le n out h))

pub line_front : (out out' : List ℕ) (r : ℕ) → r ≤ LONGEST → length out ≡ LONGEST → length out' ≡ length out → Front r out'
line_front out out' r h k e = front out' r (omega arith)
