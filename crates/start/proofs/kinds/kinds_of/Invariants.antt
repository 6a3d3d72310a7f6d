-- `kinds_of` enters the rows from the first to the last.
use Rattle.start.specs.KindLaws.{Entered}
use Rattle.start.specs.PairLaws.{rows_in}
use Rattle.start.proofs.kinds.kinds_of.Given as goal

abbrev pub invariant-loop-base : goal.invariant-loop-base
invariant-loop-base l = Entered (rows_in l.rows) l.base-index l.kinds
