-- `extended` sign-extends an immediate: its 16 bits as a signed number, and that number's 32 bits.
use Rattle.std.proofs.Common.{◌≡◌, ℕ, ◌∙◌, ◌+◌, ◌-◌, ◌<◌, ◌^◌, ℤ, to_z, of_z, arith, ap, ltb, le-ltb}
use Rattle.std.proofs.Math.Decide.{dec_lt}
use Rattle.std.proofs.lemmas.Int.{to_z-of_z, to_z_pos}
use mir.Syntax.{w16, w32}
use mir.Val.{SFits}
use borrow.Author.Rules.{rules}
use Rattle.choice.specs.Pick.{pick, is_less, not_less}
use Rattle.machine.specs.Arithmetic.{extend_of}
use Rattle.machine.proofs.arithmetic.extended.Goals as goal

bits : (i : ℕ) → i < 2 ^ 16 → of_z w32 (to_z w16 i) ≡ extend_of i
unfolding extend_of
bits i h = by_half (dec_lt i (2 ^ 15))
  where
    by_half : Dec (i < 2 ^ 15) → of_z w32 (to_z w16 i) ≡ pick (ltb i (2 ^ 15)) i (i + (2 ^ 32 - 2 ^ 16))
    by_half (yes g) = is_less i (2 ^ 15) _ _ _ g (ap (of_z w32) (to_z_pos w16 i g))
    by_half (no g) = not_less i (2 ^ 15) _ _ _ (omega arith) (rw (le-ltb i (2 ^ 15) (omega arith)) (omega arith))

as_extended : (i r : ℕ) (x y : ℤ) → i < 2 ^ 16 → SFits w16 x → SFits w32 y → x ≡ to_z w16 i → y ≡ to_z w16 (of_z w16 x) → r ≡ of_z w32 (to_z w32 (of_z w32 y))
    → r ≡ extend_of i
as_extended i r x y h fx fy ex ey er = er ∙ cc (to_z-of_z w16 x fx, to_z-of_z w32 y fy, bits i h)

pub returns : goal.returns
returns c = search (as_extended, rules)
