-- `read_groups` reads a number: the whole reading is what is left of it from each group on.
use Prim.Native.Nat.{◌+◌, ◌-◌, ◌<◌}
use mathlib.Core.Path.{◌≡◌}
use Rattle.number.specs.Number.{GROUPS, groups_of, read_of}
use Rattle.number.specs.NumberLaws.{scale_at}
use Rattle.number.proofs.read_groups.Given as goal

abbrev pub invariant-loop : goal.invariant-loop
invariant-loop l =
    (read_of l.bytes l.first ≡ groups_of (GROUPS - l.counter) l.bytes l.first l.at l.value l.scale)
    × (l.at ≡ l.first + l.counter)
    × (l.scale ≡ scale_at (GROUPS - l.counter))
    × (l.value < l.scale)
