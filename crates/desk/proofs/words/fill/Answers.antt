use native.Mathlib.Omega.{arith}
use lib.ListN.{length-set}
use Rattle.desk.specs.ByteLaws.{fill_more, fill_all, front_filled}
use Rattle.desk.proofs.words.fill.Goals as goal

pub loop-i-preserved : goal.loop-i-preserved
loop-i-preserved c =
    (simp length-set (omega arith), fill_more _ _ _ _ c.loop-i.invariant.0 (omega arith) c.loop-i.invariant.1 c.from_le_bytes.ensures)

pub returns : goal.returns
returns c = front_filled _ _ _ (fill_all _ _ _ c.loop-i.invariant.0 (omega arith) c.loop-i.invariant.1)
