-- `spill` copies words into bytes: the bytes of the words before i are there, and the words left make the rest.
use Prim.Native.Nat.{◌*◌}
use mathlib.Core.Path.{◌≡◌}
use lib.ListN.{length}
use Rattle.desk.specs.ByteLaws.{Spilled}
use Rattle.desk.proofs.words.spill.Given as goal

abbrev pub invariant-loop-i : goal.invariant-loop-i
invariant-loop-i l = (length l.front ≡ length l.from * 4) × Spilled l.from l.front l.i
