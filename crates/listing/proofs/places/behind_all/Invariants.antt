-- `behind_all` goes from part to part: it stands behind as many parts as it has gone over.
use Prim.Native.Nat.{◌+◌, ◌*◌, ◌≤◌}
use mathlib.Core.Path.{◌≡◌}
use Rattle.listing.specs.Parts.{behind}
use Rattle.listing.proofs.places.behind_all.Given as goal

abbrev pub invariant-loop : goal.invariant-loop
invariant-loop g l = (l.at ≡ behind (g.P.Part.next l.numbers) l.first l.counter) × (l.at ≤ l.first + g.P.Part.most * l.counter)
