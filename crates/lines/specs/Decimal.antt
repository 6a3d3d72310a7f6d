-- A number in decimal: ASCII digits, the first the most significant, with no 0 in front.
use Rattle.std.specs.Prelude.{ℕ, zero, suc, ◌+◌, ◌/◌, ◌%◌, List, [], ◌∷◌, ◌++◌, ltb}
use Rattle.choice.specs.Pick.{pick}

-- the ASCII code of a digit
abbrev pub digit_of : ℕ → ℕ
digit_of d = 48 + d

-- a number n has at most n + 1 digits, so `fuel` never ends first
unfoldable pub digits_from : ℕ → ℕ → List ℕ
digits_from zero n = []
digits_from (suc fuel) n = pick (ltb n 10) (digit_of n ∷ []) (digits_from fuel (n / 10) ++ digit_of (n % 10) ∷ [])

unfoldable pub decimal_of : ℕ → List ℕ
decimal_of n = digits_from (suc n) n
