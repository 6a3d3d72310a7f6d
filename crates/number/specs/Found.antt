-- What stands at a place of a packet, as definitions speak of it, and as the code answers it.
use Rattle.std.specs.Prelude.{ℕ, ◌≡◌, Result, Ok, Err}
use Rattle.std.proofs.Common.{refl, sym, ap, ◌∙◌}
use Rattle.number.specs.declared.Number.{Number as Read}
use Rattle.number.specs.declared.NumberError.{NumberError}
use Rattle.number.specs.declared.NumberError.TheVariants as error

-- a number, and the place behind it; or the bytes end before its last or fifth byte; or none in shortest form below 2 ^ 32, and the place that the refusal names
pub data Found : Type 0 where
  Number : ℕ → ℕ → Found
  Ended : Found
  Malformed : ℕ → Found

-- the same as the code answers it
abbrev pub found_in : Result Read NumberError → Found
found_in (Ok n) = Number n.value n.behind
found_in (Err error.Ended) = Ended
found_in (Err (error.Malformed place)) = Malformed place

-- no two answers of the code are one: an answer is made again from what it says
answer_of : Found → Result Read NumberError
answer_of (Number value behind) = Ok record { value = value; behind = behind }
answer_of Ended = Err error.Ended
answer_of (Malformed place) = Err (error.Malformed place)

answer_again : (r : Result Read NumberError) → answer_of (found_in r) ≡ r
unfolding answer_of
answer_again (Ok n) = refl
answer_again (Err error.Ended) = refl
answer_again (Err (error.Malformed place)) = refl

pub found_unique : (r r' : Result Read NumberError) → found_in r ≡ found_in r' → r ≡ r'
found_unique r r' e = sym (answer_again r) ∙ ap answer_of e ∙ answer_again r'
