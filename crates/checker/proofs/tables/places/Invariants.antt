-- `places` enters the place of each part: the whole table is what is left to enter from each on.
use Rattle.checker.specs.Tables.{tabled_from, table_of}
use Prim.Native.Nat.{◌+◌, ◌*◌, ◌-◌, ◌≤◌}
use mathlib.Core.Path.{◌≡◌}
use lib.ListN.{length}
use Rattle.checker.proofs.tables.places.Given as goal

abbrev pub invariant-loop-k : goal.invariant-loop-k
invariant-loop-k g l =
    (table_of g.row.N (length l.numbers) (g.P.Part.next l.numbers) l.first l.n ≡ tabled_from (g.P.Part.next l.numbers) l.at l.k (l.n - l.k) l.table)
    × (l.at ≤ l.first + g.P.Part.most * l.k)
    × (length l.table ≡ g.row.N)
