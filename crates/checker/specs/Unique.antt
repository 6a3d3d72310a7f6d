-- Any two results that meet the promise of `check` are equal: the answer, and every word of the room.
use Rattle.std.specs.Prelude.{ℕ, ◌≡◌, refl, Result, Ok, Err, List}
use Rattle.std.proofs.Common.{sym, ap, ◌∙◌}
use Rattle.refusals.specs.declared.Fault.{Fault}
use Rattle.refusals.specs.Refusals.{number_of, verdict_of}
use Rattle.refusals.specs.RefusalLaws.{verdict_unique}
use Rattle.listing.specs.declared.reading.ReadError.{ReadError}
use Rattle.listing.specs.declared.reading.ReadError.TheVariants as error
use Rattle.checker.specs.Checked.{checked_in}
use Rattle.checker.specs.Check.{Checking, checking_of, check_in}

-- what an answer says of a packet says which answer it is
same_fault : (f f' : Fault) → number_of f.refusal ≡ number_of f'.refusal → f.place ≡ f'.place → f ≡ f'
same_fault f f' n p =
    let same : ◌≡◌ {A = Result (Unit {0}) Fault} (Err f) (Err f') = verdict_unique (Err f) (Err f') (λ i. verdict_of (n i) (p i)) in cc

pub checked_unique : (r r' : Result ℕ ReadError) → checked_in r ≡ checked_in r' → r ≡ r'
checked_unique (Ok n) (Ok m) e = cc
checked_unique (Err (error.Refused f)) (Err (error.Refused f')) e = ap (λ (x : Fault). Err (error.Refused x)) (same_fault f f' (cc) (cc))
checked_unique (Err error.NoRoom) (Err error.NoRoom) e = refl
checked_unique (Ok n) (Err (error.Refused f)) e = cc
checked_unique (Ok n) (Err error.NoRoom) e = cc
checked_unique (Err (error.Refused f)) (Ok n) e = cc
checked_unique (Err (error.Refused f)) (Err error.NoRoom) e = cc
checked_unique (Err error.NoRoom) (Ok n) e = cc
checked_unique (Err error.NoRoom) (Err (error.Refused f)) e = cc

pub check_unique : (packet room : List ℕ) (r r' : Result ℕ ReadError) (room₁ room₂ : List ℕ)
    → checking_of (checked_in r) room₁ ≡ check_in packet room → checking_of (checked_in r') room₂ ≡ check_in packet room
    → (r ≡ r') × (room₁ ≡ room₂)
check_unique packet room r r' room₁ room₂ p q =
    (checked_unique r r' (ap (λ (c : Checking). c.answer) (p ∙ sym q)), ap (λ (c : Checking). c.numbers) (p ∙ sym q))
