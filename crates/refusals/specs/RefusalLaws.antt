-- Two answers with one number are equal, and so are two with one number and one place: a promise that speaks of these says which answer it is. By the refusal of a number.
use Rattle.std.specs.Prelude.{ℕ, ◌≡◌, Result, Ok, Err, eqb}
use Rattle.std.proofs.Common.{refl, sym, ap, ◌∙◌, subst}
use Rattle.choice.specs.Pick.{pick}
use Rattle.refusals.specs.declared.Refusal.{Refusal}
use Rattle.refusals.specs.declared.Refusal.TheVariants.{Ended, Malformed, WrongEdition, OutOfRange, LeftOver, TooLong, NoLabel, PlacedTwice, FirstStack, NotListed, WrongSort, LevelRule, NoField, StackRule, NotMet, WritesR0, PushPast, OpenEnd, NeverPlaced, NotTheField, BadSize, BadRow, BadField, BadRegister, BudgetTooLarge, DoesNotFit, CodeTooLong}
use Rattle.refusals.specs.declared.Fault.{Fault}
use Rattle.refusals.specs.Refusals.{number_of, number_in, Verdict, verdict_in}

-- the refusal of a number; CodeTooLong where it is none
refusal_of : ℕ → Refusal
refusal_of n =
    pick (eqb n 1) Ended (pick (eqb n 2) Malformed (pick (eqb n 3) WrongEdition (pick (eqb n 4) OutOfRange (pick (eqb n 5) LeftOver (pick (eqb n 6) TooLong
    (pick (eqb n 10) NoLabel (pick (eqb n 11) PlacedTwice (pick (eqb n 12) FirstStack (pick (eqb n 13) NotListed (pick (eqb n 14) WrongSort (pick (eqb n 15) LevelRule
    (pick (eqb n 16) NoField (pick (eqb n 17) StackRule (pick (eqb n 18) NotMet (pick (eqb n 19) WritesR0 (pick (eqb n 20) PushPast (pick (eqb n 21) OpenEnd
    (pick (eqb n 22) NeverPlaced (pick (eqb n 23) NotTheField (pick (eqb n 30) BadSize (pick (eqb n 31) BadRow (pick (eqb n 32) BadField (pick (eqb n 33) BadRegister
    (pick (eqb n 34) BudgetTooLarge (pick (eqb n 35) DoesNotFit CodeTooLong)))))))))))))))))))))))))

refusal_back : (r : Refusal) → refusal_of (number_of r) ≡ r
unfolding refusal_of pick
refusal_back Ended = refl
refusal_back Malformed = refl
refusal_back WrongEdition = refl
refusal_back OutOfRange = refl
refusal_back LeftOver = refl
refusal_back TooLong = refl
refusal_back NoLabel = refl
refusal_back PlacedTwice = refl
refusal_back FirstStack = refl
refusal_back NotListed = refl
refusal_back WrongSort = refl
refusal_back LevelRule = refl
refusal_back NoField = refl
refusal_back StackRule = refl
refusal_back NotMet = refl
refusal_back WritesR0 = refl
refusal_back PushPast = refl
refusal_back OpenEnd = refl
refusal_back NeverPlaced = refl
refusal_back NotTheField = refl
refusal_back BadSize = refl
refusal_back BadRow = refl
refusal_back BadField = refl
refusal_back BadRegister = refl
refusal_back BudgetTooLarge = refl
refusal_back DoesNotFit = refl
refusal_back CodeTooLong = refl

pub number_unique : (r r' : Refusal) → number_of r ≡ number_of r' → r ≡ r'
number_unique r r' e = sym (refusal_back r) ∙ ap refusal_of e ∙ refusal_back r'

-- no refusal has the number of none
pub some_number : (r : Refusal) → 0 ≡ number_of r → ⊥
some_number Ended e = cc
some_number Malformed e = cc
some_number WrongEdition e = cc
some_number OutOfRange e = cc
some_number LeftOver e = cc
some_number TooLong e = cc
some_number NoLabel e = cc
some_number PlacedTwice e = cc
some_number FirstStack e = cc
some_number NotListed e = cc
some_number WrongSort e = cc
some_number LevelRule e = cc
some_number NoField e = cc
some_number StackRule e = cc
some_number NotMet e = cc
some_number WritesR0 e = cc
some_number PushPast e = cc
some_number OpenEnd e = cc
some_number NeverPlaced e = cc
some_number NotTheField e = cc
some_number BadSize e = cc
some_number BadRow e = cc
some_number BadField e = cc
some_number BadRegister e = cc
some_number BudgetTooLarge e = cc
some_number DoesNotFit e = cc
some_number CodeTooLong e = cc

pub answer_unique : (r r' : Result (Unit {0}) Refusal) → number_in r ≡ number_in r' → r ≡ r'
answer_unique (Ok u) (Ok v) e = refl
answer_unique (Ok u) (Err r) e = absurd (some_number r e)
answer_unique (Err r) (Ok u) e = absurd (some_number r (sym e))
answer_unique (Err r) (Err r') e = ap Err (number_unique r r' e)

same_fault : (f f' : Fault) → f.refusal ≡ f'.refusal → f.place ≡ f'.place → f ≡ f'
same_fault f f' r p = subst (λ (x : Refusal). f ≡ record { refusal = x; place = f'.place }) r (ap (λ (x : ℕ). record { refusal = f.refusal; place = x }) p)

pub verdict_unique : (r r' : Result (Unit {0}) Fault) → verdict_in r ≡ verdict_in r' → r ≡ r'
verdict_unique (Ok u) (Ok v) e = refl
verdict_unique (Ok u) (Err f) e = absurd (some_number f.refusal (ap (λ (v : Verdict). v.number) e))
verdict_unique (Err f) (Ok u) e = absurd (some_number f.refusal (sym (ap (λ (v : Verdict). v.number) e)))
verdict_unique (Err f) (Err f') e = ap Err (same_fault f f' (number_unique f.refusal f'.refusal (ap (λ (v : Verdict). v.number) e)) (ap (λ (v : Verdict). v.place) e))
