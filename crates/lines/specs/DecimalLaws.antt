-- A number's digits are those of a tenth of it, and its last digit.
use Rattle.std.specs.Prelude.{ℕ, zero, suc, ◌/◌, ◌%◌, ◌^◌, ◌<◌, ◌≤◌, ◌≡◌, refl, List, [], ◌∷◌, ◌++◌, ltb, length}
use Rattle.std.proofs.Common.{pow-suc, arith, sym, ap, length-append}
use Rattle.choice.specs.Pick.{pick, is_less, not_less, if_less}
use Rattle.lines.specs.Decimal.{digit_of, digits_from, decimal_of}

tenth : (k n : ℕ) → n < 10 ^ suc (suc k) → n / 10 < 10 ^ suc k
tenth k n h = omega (arith, pow-suc 10 (suc k))

-- fuel that is enough makes no difference
same_digits : (f g n : ℕ) → n < f → n < g → digits_from f n ≡ digits_from g n
unfolding digits_from
same_digits zero g n h k = absurd (omega arith)
same_digits (suc f) zero n h k = absurd (omega arith)
same_digits (suc f) (suc g) n h k =
    if_less (λ (ds : List ℕ). pick (ltb n 10) (digit_of n ∷ []) (digits_from f (n / 10) ++ digit_of (n % 10) ∷ []) ≡ ds) n 10 _ _
    (λ l. sym (is_less n 10 _ _ _ l refl))
    (λ l. sym (not_less n 10 _ _ _ l (ap (λ (ds : List ℕ). ds ++ digit_of (n % 10) ∷ []) (sym (same_digits f g (n / 10) (omega arith) (omega arith))))))

pub decimal_one : (n : ℕ) → n < 10 → digit_of n ∷ [] ≡ decimal_of n
unfolding decimal_of digits_from
decimal_one n h = is_less n 10 _ _ _ h refl

pub decimal_more : (n : ℕ) → 10 ≤ n → decimal_of (n / 10) ++ digit_of (n % 10) ∷ [] ≡ decimal_of n
unfolding decimal_of digits_from
decimal_more n h =
    not_less n 10 _ _ _ h (ap (λ (ds : List ℕ). ds ++ digit_of (n % 10) ∷ []) (same_digits (suc (n / 10)) n (n / 10) (omega arith) (omega arith)))

-- a number below a power of ten has no more digits than that
pub digits_below : (k n : ℕ) → n < 10 ^ suc k → length (decimal_of n) ≤ suc k
digits_below zero n h = rw (← decimal_one n (omega arith)) (omega arith)
digits_below (suc k) n h =
    if_less (λ (x : ℕ). length (decimal_of n) ≤ suc (suc k)) n 10 0 0
    (λ l. rw (← decimal_one n l) (omega arith))
    (λ l. rw (← decimal_more n l) (simp length-append (omega (arith, digits_below k (n / 10) (tenth k n h)))))
