-- `put_all` writes the words of the kept items: the whole code is what the items that are left still write into it.
use Prim.Native.Nat.{◌+◌, ◌-◌, ◌*◌, ◌≤◌}
use Rattle.listing.specs.Parts.{items_in}
use Rattle.listing.specs.PlaceLaws.{ITEM_NUMBERS, LISTING_NUMBERS}
use Rattle.eraser.specs.PassLaws.{items_from, put_of, Passing}
use Rattle.eraser.proofs.words.put_all.Given as goal

abbrev pub invariant-loop : goal.invariant-loop
invariant-loop l =
    Passing (put_of l.addresses) (items_in l.numbers) l.initial.code (items_from l.numbers l.at (l.end - l.counter)) l.count l.code
    × (l.at + ITEM_NUMBERS * (l.end - l.counter) ≤ LISTING_NUMBERS)
