-- Where the parts of a listing stand among its numbers: how far each place lies at most, and one part more.
use Prim.Native.Nat.{ℕ, zero, suc, ◌+◌, ◌*◌, ◌≤◌}
use native.Mathlib.Omega.{arith}
use Rattle.std.specs.Prelude.{◌≡◌}
use Rattle.std.proofs.Math.Path.{refl, sym}
use Rattle.std.proofs.Common.{subst, add-one}
use Rattle.choice.specs.Pick.{both, if_less}
use Rattle.listing.specs.Limits.{SHAPES, FIELDS, LABELS, STACK, REGISTERS, ITEMS}
use Rattle.listing.specs.Parts.{behind, count_of, size_of}

-- the most numbers of a shape, a label and an item
abbrev pub SHAPE_NUMBERS : ℕ
SHAPE_NUMBERS = 1 + 2 * FIELDS

abbrev pub LABEL_NUMBERS : ℕ
LABEL_NUMBERS = 3 + STACK + 3 * REGISTERS

abbrev pub ITEM_NUMBERS : ℕ
ITEM_NUMBERS = 4

-- the furthest places of the counts of labels and items
abbrev pub TOP_LABELS_PLACE : ℕ
TOP_LABELS_PLACE = 2 + SHAPE_NUMBERS * SHAPES

abbrev pub TOP_ITEMS_PLACE : ℕ
TOP_ITEMS_PLACE = TOP_LABELS_PLACE + 1 + LABEL_NUMBERS * LABELS

-- the most numbers of a listing
abbrev pub LISTING_NUMBERS : ℕ
LISTING_NUMBERS = TOP_ITEMS_PLACE + 1 + ITEM_NUMBERS * ITEMS

-- a count is held to its limit, and an item to its size
pub count_held : (limit n r : ℕ) → r ≡ count_of limit n → r ≤ limit
unfolding count_of
count_held limit n r e = subst (λ (x : ℕ). x ≤ limit) (sym e) (if_less (λ (x : ℕ). x ≤ limit) limit n limit n (λ h. omega arith) (λ h. h))

pub size_held : (n r : ℕ) → r ≡ size_of n → r ≤ ITEM_NUMBERS
unfolding size_of
size_held n r e =
    let Held : ℕ → Type 0 = λ x. x ≤ ITEM_NUMBERS in
    subst Held (sym e) (both Held _ _ _ (omega arith) (both Held _ _ _ (omega arith) (both Held _ _ _ (omega arith) (both Held _ _ _ (omega arith) (omega arith)))))

-- the place behind one part more
last_part : (next : ℕ → ℕ) (at n : ℕ) → behind next at (suc n) ≡ next (behind next at n)
unfolding behind
last_part next at zero = refl
last_part next at (suc n) = last_part next (next at) n

pub behind_more : (next : ℕ → ℕ) (at n : ℕ) → behind next at (n + 1) ≡ next (behind next at n)
behind_more next at n = rw add-one (last_part next at n)
