-- `check_block` goes from field to field: the first fault is that of the words that are left.
use mathlib.Core.Path.{◌≡◌}
use lib.ListN.{drop}
use Rattle.listing.specs.Parts.{shapes_in}
use Rattle.start.specs.Start.{row_at, first_of, words_from, word_fault, block_fault}
use Rattle.start.specs.PartLaws.{fields_in}
use Rattle.start.specs.PairLaws.{rows_in}
use Rattle.start.proofs.starts.Start.check_block.Given as goal

abbrev pub invariant-loop-c : goal.invariant-loop-c
invariant-loop-c l =
    block_fault (shapes_in l.self.numbers.now) (rows_in l.self.blocks.rows.now) l.self.heap.now (row_at l.fn.row 0)
    ≡ first_of (word_fault (rows_in l.self.blocks.rows.now) l.self.heap.now) (drop l.c (words_from l.base (fields_in l.self.numbers.now l.fields.at l.fields.count)))
