-- `fill` copies bytes into words: the words before i are there, and the bytes left make the rest.
use Prim.Native.Nat.{◌*◌}
use mathlib.Core.Path.{◌≡◌}
use lib.ListN.{length}
use Rattle.desk.specs.ByteLaws.{Filled}
use Rattle.desk.proofs.words.fill.Given as goal

abbrev pub invariant-loop-i : goal.invariant-loop-i
invariant-loop-i l = (length l.from ≡ length l.word-items * 4) × Filled l.from l.word-items l.i
