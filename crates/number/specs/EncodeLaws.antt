-- A number is read at a place exactly when its bytes stand there: `read_standing` and `read_encoded` one way, `encoded_read` the other; so one number is read there, by one encoding.
-- Each way is one induction on the groups left, over any rest of a number: what its groups count, with those read before them, is the number.
use Prim.Native.Nat.{ℕ, zero, suc, ◌+◌, ◌*◌, ◌/◌, ◌%◌, ◌^◌, ◌<◌, ◌≤◌}
use Rattle.std.proofs.Common.{add-mul, mul_assoc, mul_comm, pow-suc, ◌∙◌, length-append, drop-drop, lit<, lit≤}
use Rattle.std.proofs.Math.Numerals.{add-one}
use Rattle.std.proofs.Math.Decide.{dec_lt}
use native.Mathlib.Omega.{arith}
use Rattle.std.specs.Prelude.{◌≡◌, Bool, true, false, List, [], ◌∷◌, ◌++◌, ltb, eqb}
use Rattle.std.proofs.Math.Path.{refl, sym, ap}
use Rattle.std.proofs.Math.Logic.{⊎_elim, by_cases}
use Rattle.std.proofs.Math.ListN.{length, get_or, drop, length-drop}
use Rattle.std.proofs.Math.Seq.{drop-cons, drop-append_seam}
use Rattle.std.proofs.Math.Dec.{eqb-suc-zero}
use borrow.Author.Tests.{ltb-true, ltb-false, eqb-true}
use Rattle.choice.specs.Pick.{pick, is_less, not_less, is_equal, not_equal, both, either}
use Rattle.number.specs.Found.{Found}
use Rattle.number.specs.Found.{Number}
use Rattle.number.specs.Number.{GROUPS, CONTINUES, last_of, groups_of, read_of, refusal_of}
use Rattle.number.specs.Encode.{encode_from, encode_of}

-- the bytes of a number by its lowest group: the only byte, or one that continues and the bytes of the groups above
module _ (left n : ℕ) where
  last_group : n < CONTINUES → encode_from (suc left) n ≡ n ∷ []
  unfolding encode_from
  last_group h = sym (is_less n CONTINUES _ _ _ h refl)

  group_goes_on : (b rest : ℕ) → CONTINUES ≤ b → b < 256 → 0 < rest → n ≡ b % 128 + rest * 128 → encode_from (suc left) n ≡ b ∷ encode_from left rest
  unfolding encode_from
  group_goes_on b rest h g k e =
      let eb : b ≡ n % 128 + CONTINUES = omega arith in
      let er : rest ≡ n / 128 = omega arith in
      sym (not_less n CONTINUES _ _ _ (omega arith) (cc))

-- what a group and those above it count
group_and_rest_count : (v n g rest scale : ℕ) → n ≡ g + rest * 128 → v + n * scale ≡ v + g * scale + rest * (scale * 128)
group_and_rest_count v n g rest scale e = rw e (omega (arith, add-mul g (rest * 128) scale, mul_assoc rest 128 scale, mul_comm 128 scale))

-- a choice that is a number is so by its test, where the other way is a refusal
number_taken : (t : Bool) (x y : Found) (w next : ℕ) → 0 < refusal_of [] y → pick t x y ≡ Number w next → (t ≡ true) × (x ≡ Number w next)
unfolding pick
number_taken true x y w next h e = (refl, e)
number_taken false x y w next h e = absurd (omega (arith, ap (refusal_of []) e))

same_number : (v i w next : ℕ) → Number v i ≡ Number w next → (w ≡ v) × (next ≡ i)
same_number v i w next e = ((cc), (cc))

-- the number w from `first` to `next`, with `behind` after it
module _ (bytes behind : List ℕ) (first w next : ℕ) where
  -- n, whose lowest group is at `at` and counts `scale`, makes w with the groups before it, which make v. Shortest form: it is zero only where it is the whole number
  record Makes (at v scale n : ℕ) : Type 0 where
    counts : w ≡ v + n * scale
    below : w < 2 ^ 32
    shortest : n ≡ 0 → (at ≡ first) × (v ≡ 0)

  -- and its bytes, at most so many, stand there
  record Stands (left at v scale n : ℕ) : Type 0 where
    makes : Makes at v scale n
    ends : next ≡ at + length (encode_from left n)
    stands : drop at bytes ≡ encode_from left n ++ behind

  module _ (at v scale : ℕ) where
    -- the last byte, b, makes the number
    last_if_makes : (b : ℕ) → Makes at v scale b → next ≡ at + 1 → Number w next ≡ last_of v scale b first at
    unfolding last_of
    last_if_makes zero m e =
        let p : w ≡ 0 = omega (arith, m.shortest refl) in
        is_equal 0 0 _ _ _ refl (is_equal at first _ _ _ (m.shortest refl).0 (cc))
    last_if_makes (suc b) m e = not_equal (suc b) 0 _ _ _ (omega arith) (is_less (v + suc b * scale) (2 ^ 32) _ _ _ (omega arith) (cc))

    makes_if_last : (b : ℕ) → (at ≡ first → v ≡ 0) → last_of v scale b first at ≡ Number w next → Makes at v scale b × (next ≡ at + 1)
    unfolding last_of pick
    makes_if_last zero z e =
        let t = number_taken (eqb at first) _ _ w next (lit< tt) e in
        let s = same_number _ _ w next t.1 in
        omega (arith, eqb-true, z (eqb-true at first t.0))
    makes_if_last (suc b) z e =
        let t = number_taken (ltb (v + suc b * scale) (2 ^ 32)) _ _ w next (lit< tt) (rw (eqb-suc-zero b) at e) in
        let s = same_number _ _ w next t.1 in
        omega (arith, ltb-true)

    -- a group is read by the byte that stands at its place
    group_read : (left b : ℕ) (rest : List ℕ) → drop at bytes ≡ b ∷ rest
        → groups_of (suc left) bytes first at v scale ≡ pick (ltb b CONTINUES) (last_of v scale b first at) (groups_of left bytes first (at + 1) (v + b % 128 * scale) (scale * 128))
    unfolding groups_of
    group_read left b rest e =
        let h : at < length bytes = omega (arith, length-drop at bytes, ap length e) in
        let s : drop at bytes ≡ get_or bytes at 0 ∷ drop (suc at) bytes = drop-cons bytes at 0 h in
        let p : get_or bytes at 0 ≡ b = cc in
        sym (is_less at (length bytes) _ _ _ h (rw p))

    last_read_if_stands : (left n : ℕ) → n < CONTINUES → Stands (suc left) at v scale n → groups_of (suc left) bytes first at v scale ≡ Number w next
    last_read_if_stands left n l r =
        let e : encode_from (suc left) n ≡ n ∷ [] = last_group left n l in
        group_read left n behind (rw e at r.stands) ∙ sym (is_less n CONTINUES _ _ _ l (last_if_makes n r.makes (omega (arith, ap length e))))

    last_stands_if_read : (left b : ℕ) → b < CONTINUES → (at ≡ first → v ≡ 0) → drop at bytes ≡ b ∷ drop (at + 1) bytes → behind ≡ drop next bytes
        → last_of v scale b first at ≡ Number w next → Stands (suc left) at v scale b
    last_stands_if_read left b h z s d e =
        let f : encode_from (suc left) b ≡ b ∷ [] = last_group left b h in
        let p = makes_if_last b z e in
        record { makes = p.0; ends = omega (arith, ap length f); stands = rw (f, d, p.1) s }

    group_and_rest_stand : (left b n : ℕ) → CONTINUES ≤ b → b < 256 → first ≤ at → drop at bytes ≡ b ∷ drop (at + 1) bytes
        → Stands left (at + 1) (v + b % 128 * scale) (scale * 128) n → Stands (suc left) at v scale (b % 128 + n * 128)
    group_and_rest_stand left b n h g l s r =
        let some : n ≡ 0 → ⊥ = λ x. omega (arith, r.makes.shortest x) in
        let f : encode_from (suc left) (b % 128 + n * 128) ≡ b ∷ encode_from left n = group_goes_on left _ b n h g (omega arith) refl in
        record {
          makes = record { counts = r.makes.counts ∙ sym (group_and_rest_count v _ (b % 128) n scale refl); below = r.makes.below; shortest = omega arith };
          ends = omega (arith, ap length f);
          stands = rw f (s ∙ ap (λ (rest : List ℕ). b ∷ rest) r.stands);
        }

  read_if_stands : (left at v scale n : ℕ) → n < 128 ^ suc left → Stands (suc left) at v scale n → groups_of (suc left) bytes first at v scale ≡ Number w next
  read_if_stands zero at v scale n h r = last_read_if_stands at v scale zero n h r
  read_if_stands (suc left) at v scale n h r =
      by_cases (dec_lt n CONTINUES) (λ l. last_read_if_stands at v scale (suc left) n l r) λ l.
      let b : ℕ = n % 128 + CONTINUES in
      let e : encode_from (suc (suc left)) n ≡ b ∷ encode_from (suc left) (n / 128) = group_goes_on (suc left) n b _ (omega arith) (omega arith) (omega arith) (omega arith) in
      let s : drop at bytes ≡ b ∷ (encode_from (suc left) (n / 128) ++ behind) = rw e at r.stands in
      group_read at v scale (suc left) b _ s
      ∙ sym (not_less b CONTINUES _ _ _ (omega arith) (sym (read_if_stands left (at + 1) _ _ (n / 128) (omega (arith, pow-suc 128 (suc left)))
      record {
        makes = record { counts = r.makes.counts ∙ group_and_rest_count v n (b % 128) (n / 128) scale (omega arith); below = r.makes.below; shortest = omega arith };
        ends = omega (arith, ap length e);
        stands = sym (drop-drop 1 at bytes) ∙ ap (drop 1) s;
      })))

  stands_if_read : ((i : ℕ) → get_or bytes i 0 < 256) → behind ≡ drop next bytes → (left at v scale : ℕ) → first ≤ at → (at ≡ first → v ≡ 0)
      → groups_of left bytes first at v scale ≡ Number w next → (n : ℕ) × Stands left at v scale n
  unfolding groups_of
  stands_if_read byte d zero at v scale l z e = absurd (omega (arith, ap (refusal_of []) e))
  stands_if_read byte d (suc left) at v scale l z e =
      let b : ℕ = get_or bytes at 0 in
      let t = number_taken (ltb at (length bytes)) _ _ w next (lit< tt) e in
      let s : drop at bytes ≡ b ∷ drop (at + 1) bytes = rw add-one (drop-cons bytes at 0 (ltb-true at (length bytes) t.0)) in
      ⊎_elim {C = (n : ℕ) × Stands (suc left) at v scale n}
      (λ u. (b, last_stands_if_read at v scale left b (ltb-true b CONTINUES u.0) z s d u.1))
      (λ u.
      let (n, r) = stands_if_read byte d left (at + 1) _ _ (omega arith) (omega arith) u.1 in
      (b % 128 + n * 128, group_and_rest_stand at v scale left b n (ltb-false b CONTINUES u.0) (byte at) l s r))
      (either (ltb b CONTINUES) _ _ _ t.1)

-- a number has one to five bytes
pub encode_some : (n : ℕ) → 0 < length (encode_of n)
unfolding encode_of encode_from
encode_some n = both (λ (l : List ℕ). 0 < length l) (ltb n CONTINUES) _ _ (lit< tt) (omega arith)

groups_at_most : (left n : ℕ) → length (encode_from left n) ≤ left
unfolding encode_from
groups_at_most zero n = lit≤ tt
groups_at_most (suc left) n = both (λ (l : List ℕ). length l ≤ suc left) (ltb n CONTINUES) _ _ (omega arith) (omega (arith, groups_at_most left (n / 128)))

pub encode_at_most : (n : ℕ) → length (encode_of n) ≤ GROUPS
unfolding encode_of
encode_at_most = groups_at_most GROUPS

-- where the bytes of a number stand, it is read
pub read_standing : (bytes behind : List ℕ) (first n : ℕ) → n < 2 ^ 32 → drop first bytes ≡ encode_of n ++ behind
    → read_of bytes first ≡ Number n (first + length (encode_of n))
unfolding encode_of
read_standing bytes behind first n h s =
    read_if_stands bytes behind first n _ 4 first 0 1 n (omega arith)
    record { makes = record { counts = omega arith; below = h; shortest = omega arith }; ends = refl; stands = s }

pub read_encoded : (n : ℕ) (front behind : List ℕ) → n < 2 ^ 32
    → read_of (front ++ (encode_of n ++ behind)) (length front) ≡ Number n (length front + length (encode_of n))
read_encoded n front behind h = read_standing (front ++ (encode_of n ++ behind)) behind (length front) n h (drop-append_seam front (encode_of n ++ behind))

-- the bytes of v stand in a packet from `first` to `next`
pub record Encoded (bytes : List ℕ) (first v next : ℕ) : Type 0 where
  pub below : v < 2 ^ 32
  pub ends : next ≡ first + length (encode_of v)
  pub within : next ≤ length bytes
  pub stands : drop first bytes ≡ encode_of v ++ drop next bytes

-- where a number is read, its bytes stand
pub encoded_read : (bytes : List ℕ) (first v next : ℕ) → ((i : ℕ) → get_or bytes i 0 < 256) → read_of bytes first ≡ Number v next → Encoded bytes first v next
unfolding encode_of
encoded_read bytes first v next byte e =
    let (n, r) = stands_if_read bytes (drop next bytes) first v next byte refl GROUPS first 0 1 (omega arith) (omega arith) e in
    let q : v ≡ n = omega arith in
    record {
      below = r.makes.below;
      ends = rw q r.ends;
      within = omega (arith, simp (length-append, length-drop) at (ap length r.stands), encode_some n);
      stands = rw q r.stands;
    }

-- the bytes of one number do not begin with those of another
pub one_number : (n m : ℕ) (behind behind' : List ℕ) → n < 2 ^ 32 → m < 2 ^ 32 → encode_of n ++ behind ≡ encode_of m ++ behind' → n ≡ m
one_number n m behind behind' h k e =
    cc (read_standing (encode_of n ++ behind) behind 0 n h refl, read_standing (encode_of n ++ behind) behind' 0 m k e)

pub encode_injective : (n m : ℕ) → n < 2 ^ 32 → m < 2 ^ 32 → encode_of n ≡ encode_of m → n ≡ m
encode_injective n m h k e = one_number n m [] [] h k (ap (λ (l : List ℕ). l ++ []) e)
