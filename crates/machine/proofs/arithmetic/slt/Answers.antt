-- `slt` compares two words as signed numbers: the number that `cast_signed` answers is the one that the definition reads.
use Rattle.std.proofs.Common.{◌≡◌, ℕ, ◌∙◌, ◌-◌, ◌<◌, ◌^◌, Bool, true, false, ℤ, pos, to_z, of_z, arith, refl, ap, ltb, le-ltb}
use Rattle.std.proofs.Math.Decide.{dec_lt}
use Rattle.std.proofs.lemmas.Int.{to_z-of_z, to_z_pos}
use lib.IntN.{negsuc}
use lib.Signed.{lt_z}
use mir.Syntax.{w32}
use mir.Val.{SFits, bool_byte}
use borrow.Author.Rules.{rules}
use Rattle.choice.specs.Pick.{pick, is_less, not_less}
use Rattle.machine.specs.Arithmetic.{signed_of, slt_of}
use Rattle.machine.proofs.arithmetic.slt.Goals as goal

as_signed : (w : ℕ) → to_z w32 w ≡ signed_of w
unfolding signed_of
as_signed w = by_half (dec_lt w (2 ^ 31))
  where
    by_half : Dec (w < 2 ^ 31) → to_z w32 w ≡ pick (ltb w (2 ^ 31)) (pos w) (negsuc (2 ^ 32 - 1 - w))
    by_half (yes g) = is_less w (2 ^ 31) _ _ _ g (to_z_pos w32 w g)
    by_half (no g) = not_less w (2 ^ 31) _ _ _ (omega arith) (rw (le-ltb w (2 ^ 31) (omega arith)) (ap negsuc (omega arith)))

as_number : (t : Bool) → bool_byte t ≡ pick t 1 0
unfolding pick
as_number true = refl
as_number false = refl

as_read : (a b r : ℕ) (x y : ℤ) → SFits w32 x → SFits w32 y → x ≡ to_z w32 a → y ≡ to_z w32 b
    → r ≡ bool_byte (lt_z (to_z w32 (of_z w32 x)) (to_z w32 (of_z w32 y))) → r ≡ slt_of a b
unfolding slt_of
as_read a b r x y fx fy ex ey e = e ∙ as_number _ ∙ cc (to_z-of_z w32 x fx, to_z-of_z w32 y fy, as_signed a, as_signed b)

pub returns : goal.returns
returns c = search (as_read, rules)
