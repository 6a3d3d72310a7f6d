-- Sets of compartments are an order with joins.
use Rattle.std.specs.Prelude.{ℕ, ◌<◌, ◌^◌, ◌≡◌, true}
use Rattle.std.proofs.Common.{mod-eq_of_lt, sym, ap, ◌∙◌, lit<, eq-eqb, eqb-true}
use Rattle.std.specs.Int.Bits.{bit_and, bit_or, and_self, and_zero_l}
use Rattle.std.proofs.lemmas.Nat.{and_comm, or_comm, and_mask, or_lt}
use Rattle.levels.specs.Order.{Order}
use Rattle.levels.specs.Sets.{below_of, join_of}
use Rattle.levels.specs.BitLaws.{and_assoc, and_or_same, or_and_distrib}

-- eight compartments
abbrev pub COMPARTMENTS : ℕ
COMPARTMENTS = 8

pub transitive : (a b c : ℕ) → bit_and a b ≡ a → bit_and b c ≡ b → bit_and a c ≡ a
transitive a b c p q = ap (λ (x : ℕ). bit_and x c) (sym p) ∙ and_assoc a b c ∙ ap (bit_and a) q ∙ p

pub join_least : (a b c : ℕ) → bit_and a c ≡ a → bit_and b c ≡ b → bit_and (bit_or a b) c ≡ bit_or a b
join_least a b c p q = or_and_distrib a b c ∙ ap (λ (x : ℕ). bit_or x (bit_and b c)) p ∙ ap (bit_or a) q

abbrev pub sets : Order
sets =
    record {
      Level = λ a. a < 2 ^ COMPARTMENTS;
      below = below_of;
      join = join_of;
      reflexive = λ a h. eq-eqb _ a (and_self a);
      transitive = λ a b c p q. eq-eqb _ a (transitive a b c (eqb-true _ a p) (eqb-true _ b q));
      antisymmetric = λ a b h k p q. sym (eqb-true _ a p) ∙ and_comm a b ∙ eqb-true _ b q;
      joins = λ a b h k. or_lt COMPARTMENTS a b h k;
      join_left = λ a b. eq-eqb _ a (and_or_same a b);
      join_right = λ a b. eq-eqb _ b (ap (bit_and b) (or_comm a b) ∙ and_or_same b a);
      join_least = λ a b c h k l p q. eq-eqb _ (join_of a b) (join_least a b c (eqb-true _ a p) (eqb-true _ b q));
      least = lit< tt;
      least_below = λ a h. eq-eqb _ 0 (and_zero_l a);
    }

-- the set of all compartments is the greatest
pub greatest : (a : ℕ) → a < 2 ^ COMPARTMENTS → below_of a 255 ≡ true
greatest a h = eq-eqb _ a (and_mask a COMPARTMENTS ∙ mod-eq_of_lt h)
