-- Laws of text that is put into a buffer: one for each way through the code that puts it, in `puts`.
use Rattle.std.specs.Prelude.{ℕ, ◌+◌, ◌/◌, ◌%◌, ◌^◌, ◌<◌, ◌≤◌, ◌≡◌, refl, List, [], ◌∷◌, ◌++◌, get_or, set, drop}
use Rattle.std.proofs.Common.{add-one, arith, sym, ◌∙◌, drop_of_length-le, drop-cons}
use Rattle.std.proofs.Math.Path.{ap}
use Rattle.std.proofs.Math.ListN.{length}
use Rattle.std.proofs.lemmas.List.Edits.{sets}
use Rattle.lines.specs.Decimal.{digit_of, decimal_of}
use Rattle.lines.specs.DecimalLaws.{decimal_one, decimal_more, digits_below}
use Rattle.lines.specs.Line.{Written, written}
use Rattle.lines.specs.Put.{put_of}

-- nothing more is put
put_none : (out : List ℕ) (end : ℕ) → written end out ≡ put_of out end []
unfolding put_of
put_none out end = let e : end ≡ end + 0 = omega arith in ap (λ (x : ℕ). written x out) e

-- a byte, and the rest behind it
put_byte : (out : List ℕ) (end b : ℕ) (text : List ℕ) → put_of (set out end b) (end + 1) text ≡ put_of out end (b ∷ text)
unfolding put_of
put_byte out end b text =
    let e : end + 1 + length text ≡ end + length (b ∷ text) = omega arith in
    λ i. written (e i) (sets (set out end b) (add-one end i) text)

-- one text behind the other
put_both : (out : List ℕ) (at : ℕ) (x y : List ℕ) (w : Written) → w ≡ put_of out at x → put_of w.out w.end y ≡ put_of out at (x ++ y)
put_both out at [] y w p = ap (λ (v : Written). put_of v.out v.end y) (p ∙ sym (put_none out at))
put_both out at (b ∷ x) y w p = put_both (set out at b) (at + 1) x y w (p ∙ sym (put_byte out at b x)) ∙ put_byte out at b (x ++ y)

pub behind : (out out₁ out₂ : List ℕ) (at a b : ℕ) (x y : List ℕ) → written a out₁ ≡ put_of out at x → written b out₂ ≡ put_of out₁ a y → written b out₂ ≡ put_of out at (x ++ y)
behind out out₁ out₂ at a b x y e f = f ∙ put_both out at x y (written a out₁) e

-- a text, byte by byte: the whole is what is still to be put
module _ (whole : Written) (out text : List ℕ) (at i : ℕ) (e : whole ≡ put_of out (at + i) (drop i text)) where
  pub text_more : (out' : List ℕ) → i < length text → out' ≡ set out (at + i) (get_or text i 0) → whole ≡ put_of out' (at + (i + 1)) (drop (i + 1) text)
  text_more out' h p =
      let behind_it : at + i + 1 ≡ at + (i + 1) = omega arith in
      e
      ∙ ap (put_of out (at + i)) (drop-cons text i 0 h ∙ ap (λ (k : ℕ). get_or text i 0 ∷ drop k text) (sym (add-one i)))
      ∙ sym (put_byte out (at + i) (get_or text i 0) (drop (i + 1) text))
      ∙ ap (λ (l : List ℕ). put_of l (at + i + 1) (drop (i + 1) text)) (sym p)
      ∙ ap (λ (k : ℕ). put_of out' k (drop (i + 1) text)) behind_it

  pub text_ends : length text ≤ i → i ≤ length text → written (at + length text) out ≡ whole
  text_ends h k =
      let its_end : at + length text ≡ at + i = omega arith in
      ap (λ (x : ℕ). written x out) its_end ∙ put_none out (at + i) ∙ ap (put_of out (at + i)) (sym (drop_of_length-le text h)) ∙ sym e

-- a number: one digit, or the digits of a tenth of it and its last
module _ (out : List ℕ) (at n : ℕ) where
  pub number_ends : (out' : List ℕ) → n < 10 → out' ≡ set out at (digit_of n) → written (at + 1) out' ≡ put_of out at (decimal_of n)
  number_ends out' h p =
      ap (written (at + 1)) p ∙ put_none (set out at (digit_of n)) (at + 1) ∙ put_byte out at (digit_of n) [] ∙ ap (put_of out at) (decimal_one n h)

  module _ (end : ℕ) (out₁ : List ℕ) (e : written end out₁ ≡ put_of out at (decimal_of (n / 10))) where
    pub number_more : (out₂ : List ℕ) → 10 ≤ n → out₂ ≡ set out₁ end (digit_of (n % 10)) → written (end + 1) out₂ ≡ put_of out at (decimal_of n)
    number_more out₂ h p =
        ap (written (end + 1)) p
        ∙ put_none (set out₁ end (digit_of (n % 10))) (end + 1)
        ∙ put_byte out₁ end (digit_of (n % 10)) []
        ∙ put_both out at (decimal_of (n / 10)) (digit_of (n % 10) ∷ []) (written end out₁) e
        ∙ ap (put_of out at) (decimal_more n h)

    pub number_near : n < 2 ^ 64 → end + 1 ≤ at + 20
    unfolding put_of
    number_near h =
        let same : end ≡ at + length (decimal_of (n / 10)) = ap (λ (w : Written). w.end) e in omega (arith, same, digits_below 18 (n / 10) (omega arith))

pub ruleset puts = (refl, behind, text_more, text_ends, number_ends, number_more, number_near)
