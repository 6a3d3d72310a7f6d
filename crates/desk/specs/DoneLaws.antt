-- Laws of what a call comes to, for the proofs of its code: a packet that is not accepted.
use Rattle.std.specs.Prelude.{◌≡◌, Result, Ok, Err, refl}
use Rattle.std.proofs.Common.{arith, ◌∙◌}
use Rattle.std.proofs.Math.Path.{ap, sym, subst}
use Rattle.std.specs.Result.{MatchResult}
use Rattle.refusals.specs.declared.Fault.{Fault}
use Rattle.refusals.specs.declared.Refusal.{Refusal}
use Rattle.refusals.specs.Refusals.{number_in}
use Rattle.refusals.specs.RefusalLaws.{some_number}
use Rattle.listing.specs.declared.reading.ReadError.{ReadError}
use Rattle.listing.specs.declared.reading.ReadError.TheVariants as error
use Rattle.checker.specs.Checked.{checked_in}
use Rattle.desk.specs.CheckCall.{NearPlace, answer_by}
use Rattle.desk.specs.Answer.{answer_of}
use Rattle.listing.specs.Taken.{fault_for}
use Rattle.desk.specs.Done.{answer_in, Near, unplaced_of}

fault_answer : (x : ReadError) → answer_in (Err (fault_for x)) ≡ answer_by (checked_in (Err x))
unfolding answer_by
fault_answer (error.Refused f) = refl
fault_answer error.NoRoom = refl

fault_near : (x : ReadError) → NearPlace x → Near (Err (fault_for x))
fault_near (error.Refused f) p = p
fault_near error.NoRoom p = omega arith

module _ (x : ReadError) (f : Fault) (e : f ≡ fault_for x) where
  pub unread_answer : answer_in (Err f) ≡ answer_by (checked_in (Err x))
  unread_answer = ap (λ (g : Fault). answer_in (Err g)) e ∙ fault_answer x

  pub unread_near : NearPlace x → Near (Err f)
  unread_near p = subst (λ (g : Fault). Near (Err g)) (sym e) (fault_near x p)

ok_not_err : {T : Type 0} (t : T) (f : Fault) → ◌≡◌ {A = Result T Fault} (Ok t) (Err f) → ⊥
ok_not_err t f p = cc

-- a result whose error was made into a refusal
module _ {T E : Type 0} (g : E → Fault) where
  pub mapped_ok : (r : Result T E) (n : T) → MatchResult r (λ t. ◌≡◌ {A = Result T Fault} (Ok n) (Ok t)) (λ e. ⊥) → r ≡ Ok n
  mapped_ok (Ok t) n p = cc
  mapped_ok (Err e) n p = absurd p

  pub mapped_err : (r : Result T E) (f : Fault) → MatchResult r (λ t. ◌≡◌ {A = Result T Fault} (Err f) (Ok t)) (λ e. f ≡ g e) → (e : E) × (r ≡ Err e) × (f ≡ g e)
  mapped_err (Ok t) f p = absurd (ok_not_err t f (sym p))
  mapped_err (Err e) f p = (e, refl, p)

-- a refusal without a place
pub unplaced_near : (e : Refusal) (f : Fault) → f ≡ unplaced_of e → Near (Err f)
unplaced_near e f p = subst (λ (g : Fault). Near (Err g)) (sym p) (omega arith)

module _ (r : Result (Unit {0}) Refusal) (e : Refusal) (p : r ≡ Err e) where
  pub unplaced_number : number_in r ≡ 0 → ⊥
  unplaced_number z = some_number e (sym z ∙ ap number_in p)

  pub unplaced_answer : (f : Fault) → f ≡ unplaced_of e → answer_in (Err f) ≡ answer_of (number_in r) 0 0
  unplaced_answer f q = ap (λ (g : Fault). answer_in (Err g)) q ∙ ap (λ (x : Result (Unit {0}) Refusal). answer_of (number_in x) 0 0) (sym p)
