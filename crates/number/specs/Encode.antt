-- 01, "The packet": the bytes of a number, in groups of seven bits, lowest group first, top bit set on all but the last byte; shortest form.
use Rattle.std.specs.Prelude.{ℕ, zero, suc, ◌+◌, ◌-◌, ◌/◌, ◌%◌, ◌^◌, ◌≡◌, refl, List, [], ◌∷◌, ltb}
use Rattle.choice.specs.Pick.{pick}
use Rattle.number.specs.Number.{GROUPS, CONTINUES}

-- n in at most so many groups: below 128 it is the last one; else its lowest seven bits with the top bit set, and then the groups above
unfoldable pub encode_from : ℕ → ℕ → List ℕ
encode_from zero n = []
encode_from (suc left) n = pick (ltb n CONTINUES) (n ∷ []) ((n % 128 + CONTINUES) ∷ encode_from left (n / 128))

-- the bytes of a number; five groups hold all below 2 ^ 32
unfoldable pub encode_of : ℕ → List ℕ
encode_of n = encode_from GROUPS n

-- the ends of one group, a number of two, and the last of all
pub encode_examples : (encode_of 0 ≡ 0 ∷ []) × (encode_of 127 ≡ 127 ∷ []) × (encode_of 128 ≡ 128 ∷ 1 ∷ []) × (encode_of 300 ≡ 172 ∷ 2 ∷ [])
    × (encode_of (2 ^ 32 - 1) ≡ 255 ∷ 255 ∷ 255 ∷ 255 ∷ 15 ∷ [])
unfolding encode_of encode_from pick
encode_examples = (refl, refl, refl, refl, refl)
