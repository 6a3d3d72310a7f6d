-- A fault is the first: before its place stand numbers that the grammar takes, and at the place where reading stopped the next number is at fault, or bytes are left over.
use Prim.Native.Nat.{ℕ, zero, suc, ◌+◌, ◌<◌, ◌≤◌, zero-le}
use Rattle.std.proofs.Common.{arith, ◌∙◌, ⊎_elim, ltb-true}
use Rattle.std.proofs.Math.Path.{◌≡◌, refl, sym, ap, subst}
use mathlib.Core.List.{List, [], ◌++◌, append_assoc}
use Rattle.std.proofs.Math.ListN.{length}
use Rattle.std.specs.Prelude.{get_or, drop, ltb}
use Rattle.choice.specs.Pick.{either, not_less}
use Rattle.number.specs.Found.{Found}
use Rattle.number.specs.Found.{Number, Ended, Malformed}
use Rattle.number.specs.Number.{read_of}
use Rattle.number.specs.Encode.{encode_of}
use Rattle.number.specs.EncodeLaws.{Encoded, encoded_read}
use Rattle.listing.specs.declared.grammar.Wanted.{Wanted}
use Rattle.listing.specs.declared.grammar.Wanted.TheVariants.{Edition}
use Rattle.listing.specs.Due.{Due}
use Rattle.listing.specs.Due.{Next, End, Refused}
use Rattle.listing.specs.Got.{Got}
use Rattle.listing.specs.Got.{Took, Bad}
use Rattle.listing.specs.Taken.{Taken}
use Rattle.listing.specs.Taken.{Fault}
use Rattle.listing.specs.Limits.{BYTES, LEFT_OVER}
use Rattle.listing.specs.Grammar.{next_of}
use Rattle.listing.specs.Fold.{fold_of}
use Rattle.listing.specs.Packet.{due_then, found_then, got_of, end_of, numbers_then, numbers_from, taken_then, taken_from, numbers_in, taken_of}
use Rattle.listing.specs.Bytes.{bytes_of}
use Rattle.listing.specs.PacketLaws.{got_behind}
use Rattle.listing.specs.ByteLaws.{never, GotNumber, got_found}

-- what is wrong at the place where reading stopped, by what is due there: the number that is wanted is at fault, or nothing is due and a byte is there
unfoldable pub WrongAt : List ℕ → ℕ → ℕ → ℕ → Due → Type 0
WrongAt bytes stop number place (Next w) = got_of bytes stop w ≡ Bad number place
WrongAt bytes stop number place End = (stop < length bytes) × (number ≡ LEFT_OVER) × (place ≡ stop)
WrongAt bytes stop number place (Refused k) = ⊥

-- the first fault of a packet from a place on, ns being the numbers before it
pub record FirstFault (bytes : List ℕ) (due : Due) (at : ℕ) (ns : List ℕ) (number place : ℕ) : Type 0 where
  pub stop : ℕ
  pub before_it : drop at bytes ≡ bytes_of ns ++ drop stop bytes
  pub wrong : WrongAt bytes stop number place (fold_of due ns)

fault_end : (bytes : List ℕ) (at count number place : ℕ) → end_of (length bytes) at count ≡ Fault number place → FirstFault bytes End at [] number place
unfolding end_of bytes_of fold_of WrongAt
fault_end bytes at count number place e =
    ⊎_elim
    (λ p. record { stop = at; before_it = refl; wrong = (ltb-true at (length bytes) p.0, cc p.1, cc p.1) })
    (λ p. never (let z : ◌≡◌ {A = ℕ} 0 1 = cc p.1 in z))
    (either (ltb at (length bytes)) _ _ (Fault number place) e)

-- after a number that was got, nothing is refused
due_live : (e : Due) (x at next v behind k : ℕ) → due_then e x at next ≡ Took v behind (Refused k) → ⊥
unfolding due_then
due_live (Next u) x at next v behind k p = never cc
due_live End x at next v behind k p = never cc
due_live (Refused n) x at next v behind k p = never cc

found_live : (f : Found) (len at : ℕ) (w : Wanted) (v behind k : ℕ) → found_then f len at w ≡ Took v behind (Refused k) → ⊥
unfolding found_then
found_live (Number x next) len at w v behind k p = due_live (next_of w x) x at next v behind k p
found_live Ended len at w v behind k p = never cc
found_live (Malformed q) len at w v behind k p = never cc

got_live : (bytes : List ℕ) (at : ℕ) (w : Wanted) (v behind : ℕ) (d : Due) → got_of bytes at w ≡ Took v behind d → (k : ℕ) → d ≡ Refused k → ⊥
got_live bytes at w v behind d g k q = found_live (read_of bytes at) (length bytes) at w v behind k (g ∙ ap (Took v behind) q)

module _ (bytes : List ℕ) (below : (i : ℕ) → get_or bytes i 0 < 256) (number place : ℕ) where
  fault_then : (g : Got) (at count : ℕ) (w : Wanted) (ns : Due → ℕ → List ℕ) (ts : Due → ℕ → ℕ → Taken) → got_of bytes at w ≡ g
      → ((v behind : ℕ) (d : Due) → got_of bytes at w ≡ Took v behind d → ts d behind (count + 1) ≡ Fault number place → FirstFault bytes d behind (ns d behind) number place)
      → taken_then g count ts ≡ Fault number place → FirstFault bytes (Next w) at (numbers_then g ns) number place
  unfolding taken_then numbers_then bytes_of fold_of WrongAt
  fault_then (Took v behind d) at count w ns ts e h p =
      let got : GotNumber bytes at w v behind d = got_found bytes at w (read_of bytes at) v behind d refl e in
      let one : Encoded bytes at v behind = encoded_read bytes at v behind below got.found in
      let rest : FirstFault bytes d behind (ns d behind) number place = h v behind d e p in
      record {
        stop = rest.stop;
        before_it = one.stands ∙ ap (λ (l : List ℕ). encode_of v ++ l) rest.before_it ∙ sym (append_assoc (encode_of v) (bytes_of (ns d behind)) (drop rest.stop bytes));
        wrong = subst (λ (x : Due). WrongAt bytes rest.stop number place (fold_of x (ns d behind))) (sym got.due) rest.wrong;
      }
  fault_then (Bad k q) at count w ns ts e h p = record { stop = at; before_it = refl; wrong = cc }

  -- `due` is a number or nothing more, and there is fuel for every byte that is left
  first_fault : (fuel : ℕ) (due : Due) (at count : ℕ) → ((k : ℕ) → due ≡ Refused k → ⊥) → at ≤ length bytes → length bytes < at + fuel → taken_from fuel bytes due at count ≡ Fault number place
      → FirstFault bytes due at (numbers_from fuel bytes due at) number place
  unfolding taken_from numbers_from
  first_fault zero due at count live h k e = absurd (omega arith)
  first_fault (suc fuel) (Next w) at count live h k e =
      fault_then (got_of bytes at w) at count w (numbers_from fuel bytes) (taken_from fuel bytes) refl
      (λ v behind d g p.
      let b : (at < behind) × (behind ≤ length bytes) = got_behind bytes at w (got_of bytes at w) v behind d h refl g in
      first_fault fuel d behind (count + 1) (got_live bytes at w v behind d g) b.1 (omega arith) p)
      e
  first_fault (suc fuel) End at count live h k e = fault_end bytes at count number place e
  first_fault (suc fuel) (Refused n) at count live h k e = absurd (live n refl)

  -- the fault of a packet that is not too long is the first
  pub fault_is_first : length bytes ≤ BYTES → taken_of bytes ≡ Fault number place → FirstFault bytes (Next Edition) 0 (numbers_in bytes) number place
  unfolding taken_of numbers_in
  fault_is_first h e =
      first_fault (length bytes + 1) (Next Edition) 0 0 (λ k q. never (let z : ◌≡◌ {A = ℕ} 0 1 = cc in z)) zero-le (omega arith)
      (not_less BYTES (length bytes) _ _ _ h refl ∙ e)
