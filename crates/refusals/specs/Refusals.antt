-- 01, "Refusal numbers": the number of each refusal. The code answers `Err` with a refusal, or `Ok` where there is none; definitions speak of the number, which is 0 where there is none.
use Rattle.std.specs.Prelude.{ℕ}
use Rattle.std.specs.Prelude.{Result, Ok, Err}
use Rattle.refusals.specs.declared.Refusal.{Refusal}
use Rattle.refusals.specs.declared.Refusal.TheVariants.{Ended, Malformed, WrongEdition, OutOfRange, LeftOver, TooLong, NoLabel, PlacedTwice, FirstStack, NotListed, WrongSort, LevelRule, NoField, StackRule, NotMet, WritesR0, PushPast, OpenEnd, NeverPlaced, NotTheField, BadSize, BadRow, BadField, BadRegister, BudgetTooLarge, DoesNotFit, CodeTooLong}
use Rattle.refusals.specs.declared.Fault.{Fault}

abbrev pub number_of : Refusal → ℕ
number_of Ended = 1
number_of Malformed = 2
number_of WrongEdition = 3
number_of OutOfRange = 4
number_of LeftOver = 5
number_of TooLong = 6
number_of NoLabel = 10
number_of PlacedTwice = 11
number_of FirstStack = 12
number_of NotListed = 13
number_of WrongSort = 14
number_of LevelRule = 15
number_of NoField = 16
number_of StackRule = 17
number_of NotMet = 18
number_of WritesR0 = 19
number_of PushPast = 20
number_of OpenEnd = 21
number_of NeverPlaced = 22
number_of NotTheField = 23
number_of BadSize = 30
number_of BadRow = 31
number_of BadField = 32
number_of BadRegister = 33
number_of BudgetTooLarge = 34
number_of DoesNotFit = 35
number_of CodeTooLong = 36

-- the number of an answer without a place
abbrev pub number_in : Result (Unit {0}) Refusal → ℕ
number_in (Ok u) = 0
number_in (Err r) = number_of r

-- a verdict as definitions speak of it: a number and a place; 0 and 0 where nothing is refused
pub record Verdict : Type 0 where
  pub number : ℕ
  pub place : ℕ

abbrev pub verdict_of : ℕ → ℕ → Verdict
verdict_of number place = record { number = number; place = place }

-- the same as the code answers it
abbrev pub verdict_in : Result (Unit {0}) Fault → Verdict
verdict_in (Ok u) = verdict_of 0 0
verdict_in (Err f) = verdict_of (number_of f.refusal) f.place
