-- Signed readings, exact at both ends: a word below 2 ^ 31 is itself, one from there on is below 0, and an extended immediate reads as its 16 bits do.
use Rattle.std.specs.Prelude.{ℕ, ◌+◌, ◌-◌, ◌%◌, ◌<◌, ◌≤◌, ◌^◌, ◌≡◌, refl, ltb, pos, negsuc}
use Rattle.std.proofs.Math.Decide.{dec_lt}
use Rattle.std.proofs.Common.{arith, sym, ap, ◌∙◌}
use Rattle.choice.specs.Pick.{pick, is_less, not_less}
use Rattle.machine.specs.Arithmetic.{signed_of, extend_of}

pub signed_low : (w : ℕ) → w < 2 ^ 31 → signed_of w ≡ pos w
unfolding signed_of
signed_low w h = sym (is_less w (2 ^ 31) _ _ _ h refl)

pub signed_high : (w : ℕ) → 2 ^ 31 ≤ w → signed_of w ≡ negsuc (2 ^ 32 - 1 - w)
unfolding signed_of
signed_high w h = sym (not_less w (2 ^ 31) _ _ _ h refl)

-- an immediate below 2 ^ 15 is itself, and one from there on is its 16 bits less 2 ^ 16
pub extended_low : (i : ℕ) → i < 2 ^ 15 → signed_of (extend_of i) ≡ pos i
unfolding extend_of
extended_low i h = ap signed_of (sym (is_less i (2 ^ 15) _ _ _ h refl)) ∙ signed_low i (omega arith)

pub extended_high : (i : ℕ) → 2 ^ 15 ≤ i → i < 2 ^ 16 → signed_of (extend_of i) ≡ negsuc (2 ^ 16 - 1 - i)
unfolding extend_of
extended_high i h g =
    ap signed_of (sym (not_less i (2 ^ 15) _ _ _ h refl))
    ∙ signed_high (i + (2 ^ 32 - 2 ^ 16)) (omega arith)
    ∙ ap negsuc (omega arith)

-- moved up by 2 ^ 15 within 16 bits and down again within 32, an immediate is extended
pub up_and_down : (i : ℕ) → i < 2 ^ 16 → ((i + 2 ^ 15) % 2 ^ 16 + (2 ^ 32 - 2 ^ 15)) % 2 ^ 32 ≡ extend_of i
unfolding extend_of
up_and_down i h = by_half (dec_lt i (2 ^ 15))
  where
    by_half : Dec (i < 2 ^ 15) → ((i + 2 ^ 15) % 2 ^ 16 + (2 ^ 32 - 2 ^ 15)) % 2 ^ 32 ≡ pick (ltb i (2 ^ 15)) i (i + (2 ^ 32 - 2 ^ 16))
    by_half (yes g) = is_less i (2 ^ 15) _ _ _ g (omega arith)
    by_half (no g) = not_less i (2 ^ 15) _ _ _ (omega arith) (omega arith)
