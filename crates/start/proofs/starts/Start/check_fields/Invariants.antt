-- `check_fields` goes from row to row: the first fault is that of the blocks that are left.
use mathlib.Core.Path.{◌≡◌}
use lib.ListN.{drop}
use Rattle.listing.specs.Parts.{shapes_in}
use Rattle.start.specs.Start.{first_of, block_fault, fields_fault}
use Rattle.start.specs.PairLaws.{rows_in}
use Rattle.start.proofs.starts.Start.check_fields.Given as goal

abbrev pub invariant-loop-row : goal.invariant-loop-row
invariant-loop-row l =
    fields_fault (shapes_in l.self.numbers.now) (rows_in l.self.blocks.rows.now) l.self.heap.now
    ≡ first_of (block_fault (shapes_in l.self.numbers.now) (rows_in l.self.blocks.rows.now) l.self.heap.now) (drop l.row-index (rows_in l.self.blocks.rows.now))
