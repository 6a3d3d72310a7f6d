-- 01, "The packet": what is due after a row of numbers, one after the other.
use Rattle.std.specs.Prelude.{ℕ, List, [], ◌∷◌}
use Rattle.listing.specs.Due.{Due}
use Rattle.listing.specs.Due.{Next, End, Refused}
use Rattle.listing.specs.Limits.{LEFT_OVER}
use Rattle.listing.specs.Grammar.{next_of}

-- A refusal stays, and behind the end a number is left over.
unfoldable pub fold_of : Due → List ℕ → Due
fold_of d [] = d
fold_of (Next w) (n ∷ ns) = fold_of (next_of w n) ns
fold_of End (n ∷ ns) = Refused LEFT_OVER
fold_of (Refused k) (n ∷ ns) = Refused k
