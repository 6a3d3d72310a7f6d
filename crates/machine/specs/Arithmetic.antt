-- 01, "Levels, words, types" and "Erased code and the machine": words of 32 bits, read as signed numbers where slt compares, and immediates of 16 bits.
use Rattle.std.specs.Prelude.{ℕ, ◌+◌, ◌-◌, ◌%◌, ◌^◌, ℤ, pos, negsuc, ltb, eqb}
use Rattle.std.specs.Int.Signed.{lt_z}
use Rattle.std.specs.Int.Bits.{bit_and, bit_xor}
use Rattle.choice.specs.Pick.{pick}

-- sums and differences wrap at 2 ^ 32
abbrev pub add_of : ℕ → ℕ → ℕ
add_of a b = (a + b) % 2 ^ 32

abbrev pub sub_of : ℕ → ℕ → ℕ
sub_of a b = (a + 2 ^ 32 - b) % 2 ^ 32

-- a word as a signed number: from 2 ^ 31 on it stands for itself less 2 ^ 32, and `negsuc n` is -1 - n
unfoldable pub signed_of : ℕ → ℤ
signed_of w = pick (ltb w (2 ^ 31)) (pos w) (negsuc (2 ^ 32 - 1 - w))

-- 1 where a is less than b as signed numbers, else 0
unfoldable pub slt_of : ℕ → ℕ → ℕ
slt_of a b = pick (lt_z (signed_of a) (signed_of b)) 1 0

-- the word of a 16-bit immediate, sign-extended: from 2 ^ 15 on the upper half is all ones
unfoldable pub extend_of : ℕ → ℕ
extend_of i = pick (ltb i (2 ^ 15)) i (i + (2 ^ 32 - 2 ^ 16))

-- the operations by their item numbers, 5 to 9: add, sub, and, xor, slt
unfoldable pub compute_of : ℕ → ℕ → ℕ → ℕ
compute_of op a b =
    pick (eqb op 5) (add_of a b)
    (pick (eqb op 6) (sub_of a b)
    (pick (eqb op 7) (bit_and a b)
    (pick (eqb op 8) (bit_xor a b) (slt_of a b))))
