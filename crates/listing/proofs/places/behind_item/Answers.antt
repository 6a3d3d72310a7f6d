-- `behind_item` lies as far on as the item is long, which is no more than four numbers.
use Rattle.listing.specs.PlaceLaws.{size_held}
use native.Mathlib.Omega.{arith}
use Rattle.listing.proofs.places.behind_item.Goals as goal

pub overflow_add-result : goal.overflow_add-result
overflow_add-result c = omega (arith, size_held _ _ c.item_size.ensures)

pub returns-clause-bounded : goal.returns-clause-bounded
returns-clause-bounded c = omega (arith, size_held _ _ c.item_size.ensures)
