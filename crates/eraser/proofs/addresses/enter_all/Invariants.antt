-- `enter_all` enters the labels' addresses: the whole table is what the items that are left make of it.
use Prim.Native.Nat.{◌+◌, ◌-◌, ◌*◌, ◌≤◌}
use Rattle.listing.specs.Parts.{items_in}
use Rattle.listing.specs.PlaceLaws.{ITEM_NUMBERS, LISTING_NUMBERS}
use Rattle.eraser.specs.Erase.{entered}
use Rattle.eraser.specs.PassLaws.{items_from, Passing}
use Rattle.eraser.proofs.addresses.enter_all.Given as goal

abbrev pub invariant-loop : goal.invariant-loop
invariant-loop l =
    Passing entered (items_in l.numbers) l.initial.addresses (items_from l.numbers l.at (l.end - l.counter)) l.count l.addresses
    × (l.at + ITEM_NUMBERS * (l.end - l.counter) ≤ LISTING_NUMBERS)
