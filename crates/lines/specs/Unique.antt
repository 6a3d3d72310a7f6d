-- Any two results that meet the promise of `line` are equal: the length, and every byte of the buffer.
use Rattle.std.specs.Prelude.{ℕ, ◌≡◌, List}
use Rattle.std.proofs.Common.{sym, ap, ◌∙◌}
use Rattle.lines.specs.Line.{Written, written, line_in}

pub line_unique : (packet out : List ℕ) (r r' : ℕ) (out₁ out₂ : List ℕ) → written r out₁ ≡ line_in packet out → written r' out₂ ≡ line_in packet out → (r ≡ r') × (out₁ ≡ out₂)
line_unique packet out r r' out₁ out₂ p q = (ap (λ (w : Written). w.end) (p ∙ sym q), ap (λ (w : Written). w.out) (p ∙ sym q))
