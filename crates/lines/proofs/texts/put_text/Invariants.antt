-- `put_text` goes from byte to byte: the whole is what is still to be put.
use Prim.Native.Nat.{◌+◌}
use mathlib.Core.Path.{◌≡◌}
use lib.ListN.{length, drop}
use Rattle.lines.specs.Put.{put_of}
use Rattle.lines.proofs.texts.put_text.Given as goal

abbrev pub invariant-loop-i : goal.invariant-loop-i
invariant-loop-i l = (length l.out ≡ length l.initial.out) × (put_of l.initial.out l.at l.text ≡ put_of l.out (l.at + l.i) (drop l.i l.text))
