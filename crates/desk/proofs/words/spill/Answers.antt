use native.Mathlib.Omega.{arith}
use Rattle.std.proofs.Common.{◌∙◌}
use Rattle.desk.specs.Bytes.{bytes_of}
use Rattle.desk.specs.ByteLaws.{spill_more, spill_all, front_spilled}
use Rattle.desk.proofs.words.spill.Goals as goal

pub loop-i-preserved : goal.loop-i-preserved
unfolding bytes_of
loop-i-preserved c =
    spill_more _ _ _ _ _ c.loop-i.invariant.0 (omega arith) c.loop-i.invariant.1 (omega arith) (c.copy_from_slice.ensures.after ∙ c.to_le_bytes.ensures)

pub returns : goal.returns
returns c = front_spilled _ _ c.requires _ (spill_all _ _ _ c.loop-i.invariant.0 (omega arith) c.loop-i.invariant.1)
