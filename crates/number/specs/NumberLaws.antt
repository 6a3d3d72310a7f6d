-- Laws for the loop that reads a number: one for each way through its body. `groups` holds them for a search.
use Rattle.std.specs.Prelude.{ℕ, zero, suc, ◌+◌, ◌-◌, ◌*◌, ◌%◌, ◌^◌, ◌<◌, ◌≤◌, ◌≡◌, List, ltb, eqb, length, get_or}
use Rattle.std.proofs.Common.{add_comm, mul_comm, pow-suc, ◌∙◌, Fits, lit<, ltb-true}
use Rattle.std.proofs.Math.Nat.{pow-le-pow_right}
use native.Mathlib.Omega.{arith}
use Rattle.std.proofs.Math.Path.{refl, sym, ap}
use Rattle.std.proofs.Math.Arith.{digits_lt}
use Rattle.std.specs.Int.{w64}
use Rattle.choice.specs.Pick.{is_less, not_less, is_equal, not_equal, both, each_way}
use Rattle.number.specs.Found.{Found}
use Rattle.number.specs.Found.{Number, Ended, Malformed}
use Rattle.number.specs.Number.{GROUPS, CONTINUES, malformed_of, last_of, groups_of, read_of}

-- what a group counts with so many left: 1 for the first of five, 2 ^ 28 for the last
unfoldable pub scale_at : ℕ → ℕ
scale_at left = 128 ^ (GROUPS - left)

pub scale_first : 1 ≡ scale_at GROUPS
unfolding scale_at
scale_first = refl

pub scale_next : (left next scale : ℕ) → left ≡ next + 1 → left ≤ GROUPS → scale ≡ scale_at left → scale * 128 ≡ scale_at next
unfolding scale_at
scale_next left next scale h g e =
    let one_more : suc (GROUPS - left) ≡ GROUPS - next = omega arith in
    ap (λ (x : ℕ). x * 128) e ∙ sym (pow-suc 128 (GROUPS - left)) ∙ ap (λ (n : ℕ). 128 ^ n) one_more

pub scale_fits : (left scale : ℕ) → 0 < left → scale ≡ scale_at left → scale ≤ 2 ^ 28
unfolding scale_at
scale_fits left scale h e =
    let at_most_four : GROUPS - left ≤ 4 = omega arith in
    rw e (pow-le-pow_right {n = 128} (lit< tt) at_most_four)

-- the groups so far make less than the next one counts
pub below_next : (v g scale : ℕ) → v < scale → g < 128 → v + g * scale < scale * 128
below_next v g scale h k = rw (add_comm v (g * scale), mul_comm scale 128) (digits_lt k h)

pub group_below : (v b scale v' : ℕ) → v < scale → v' ≡ v + b % 128 * scale → v' < scale * 128
group_below v b scale v' h e = rw e (below_next v (b % 128) scale h (omega arith))

-- nor does the scale wrap
pub scale_times_fits : (left scale : ℕ) → 0 < left → scale ≡ scale_at left → Fits w64 (scale * 128)
scale_times_fits left scale h e = record { fits = omega (arith, scale_fits left scale h e) }

alone_last : (b first : ℕ) → b < CONTINUES → Number b (first + 1) ≡ last_of 0 1 b first first
unfolding last_of
alone_last zero first g = is_equal 0 0 _ _ _ refl (is_equal first first _ _ _ refl refl)
alone_last (suc b) first g =
    let itself : suc b ≡ 0 + suc b * 1 = omega arith in
    not_equal (suc b) 0 _ _ _ (λ q. omega arith) (is_less (0 + suc b * 1) (2 ^ 32) _ _ _ (omega arith) (ap (λ (x : ℕ). Number x (first + 1)) itself))

-- the turns of the loop: the whole reading is what is left of it from each turn on
module _ (whole : Found) (left : ℕ) (bytes : List ℕ) (first at v scale : ℕ) (inv : whole ≡ groups_of left bytes first at v scale) where
  one_taken : 0 < left → whole ≡ groups_of (suc (left - 1)) bytes first at v scale
  one_taken h =
      let e : left ≡ suc (left - 1) = omega arith in
      inv ∙ ap (λ (n : ℕ). groups_of n bytes first at v scale) e

  pub goes_on : (next v' : ℕ) → left ≡ next + 1 → at < length bytes → CONTINUES ≤ get_or bytes at 0 → v' ≡ v + get_or bytes at 0 % 128 * scale
      → whole ≡ groups_of next bytes first (at + 1) v' (scale * 128)
  unfolding groups_of
  goes_on next v' h g c e =
      let same : next ≡ left - 1 = omega arith in
      one_taken (omega arith)
      ∙ sym (is_less at (length bytes) _ _ _ g (not_less (get_or bytes at 0) CONTINUES _ _ _ c (cc)))

  pub at_last : (r : Found) → 0 < left → at < length bytes → get_or bytes at 0 < CONTINUES → r ≡ last_of v scale (get_or bytes at 0) first at → r ≡ whole
  unfolding groups_of
  at_last r h g c p =
      is_less at (length bytes) _ _ _ g (is_less (get_or bytes at 0) CONTINUES _ _ _ c p) ∙ sym (one_taken h)

  pub at_end : 0 < left → length bytes ≤ at → Ended ≡ whole
  unfolding groups_of
  at_end h g = not_less at (length bytes) _ _ _ g refl ∙ sym (one_taken h)

  pub too_long : (r : Found) → left ≤ 0 → r ≡ malformed_of first (at - 1) → r ≡ whole
  unfolding groups_of
  too_long r h p =
      let e : left ≡ 0 = omega arith in
      p ∙ sym (inv ∙ ap (λ (n : ℕ). groups_of n bytes first at v scale) e)

-- a byte that does not continue is a number by itself
pub single : (bytes : List ℕ) (first : ℕ) → first < length bytes → get_or bytes first 0 < CONTINUES → Number (get_or bytes first 0) (first + 1) ≡ read_of bytes first
single bytes first h c = at_last (read_of bytes first) GROUPS bytes first first 0 1 refl (Number (get_or bytes first 0) (first + 1)) (lit< tt) h c (alone_last (get_or bytes first 0) first c)

pub ruleset groups = (scale_first, scale_next, scale_fits, scale_times_fits, group_below, goes_on, at_last, at_end, too_long)

-- a number's next place lies behind the place that it is read at, and within the packet; a malformed number's place lies within it too
unfoldable pub Placed : ℕ → ℕ → Found → Type 0
Placed at end (Number v next) = (at < next) × (next ≤ end)
Placed at end Ended = Unit {0}
Placed at end (Malformed place) = place ≤ end

placed_later : (at end : ℕ) (r : Found) → Placed (at + 1) end r → Placed at end r
unfolding Placed
placed_later at end (Number v next) p = omega arith
placed_later at end Ended p = p
placed_later at end (Malformed place) p = p

last_placed : (v scale b first at : ℕ) (bytes : List ℕ) → first ≤ length bytes → at < length bytes → Placed at (length bytes) (last_of v scale b first at)
unfolding Placed last_of
last_placed v scale b first at bytes f h =
    both (Placed at (length bytes)) (eqb b 0) _ _
    (both (Placed at (length bytes)) (eqb at first) _ _ (omega arith) f)
    (both (Placed at (length bytes)) (ltb (v + b * scale) (2 ^ 32)) _ _ (omega arith) f)

groups_placed : (left : ℕ) (bytes : List ℕ) (first at v scale : ℕ) → first ≤ length bytes → Placed at (length bytes) (groups_of left bytes first at v scale)
unfolding Placed groups_of
groups_placed zero bytes first at v scale f = f
groups_placed (suc left) bytes first at v scale f =
    each_way (Placed at (length bytes)) (ltb at (length bytes)) _ _
    (λ h.
    both (Placed at (length bytes)) (ltb (get_or bytes at 0) CONTINUES) _ _
    (last_placed v scale (get_or bytes at 0) first at bytes f (ltb-true at (length bytes) h))
    (placed_later at (length bytes) (groups_of left bytes first (at + 1) (v + get_or bytes at 0 % 128 * scale) (scale * 128)) (groups_placed left bytes first (at + 1) (v + get_or bytes at 0 % 128 * scale) (scale * 128) f)))
    (λ h. tt)

pub read_placed : (bytes : List ℕ) (at : ℕ) → at ≤ length bytes → Placed at (length bytes) (read_of bytes at)
read_placed bytes at f = groups_placed GROUPS bytes at at 0 1 f
