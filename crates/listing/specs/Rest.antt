-- The items that are still to come, in order.
use Rattle.std.specs.Prelude.{ℕ, suc, ◌-◌, ◌<◌, ◌≡◌, List, [], ◌∷◌}
use Rattle.std.proofs.Common.{ap, arith}
use Rattle.listing.specs.declared.items.Item.{Item}
use Rattle.listing.specs.declared.rest.Rest.{Rest}
use Rattle.listing.specs.Parts.{parts_from, item_at, behind_item}

abbrev pub items_left : Rest → List Item
items_left r = parts_from (item_at r.numbers.now) (behind_item r.numbers.now) r.at r.left

-- none, or the first and those behind it
module _ {A : Type 0} (part : ℕ → A) (next : ℕ → ℕ) (at n : ℕ) where
  pub no_part : n ≡ 0 → parts_from part next at n ≡ []
  unfolding parts_from
  no_part e = rw e

  pub one_part : 0 < n → parts_from part next at n ≡ part at ∷ parts_from part next (next at) (n - 1)
  unfolding parts_from
  one_part h = let e : n ≡ suc (n - 1) = omega arith in ap (parts_from part next at) e

pub ruleset rests = (no_part, one_part)
