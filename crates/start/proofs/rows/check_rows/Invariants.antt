-- `check_rows` goes from row to row: the first bad row is that of the rows that are left.
use mathlib.Core.Path.{◌≡◌}
use lib.ListN.{drop}
use Rattle.listing.specs.Parts.{shapes_in}
use Rattle.start.specs.Start.{rows_from}
use Rattle.start.specs.PairLaws.{rows_in}
use Rattle.start.proofs.rows.check_rows.Given as goal

abbrev pub invariant-loop-place : goal.invariant-loop-place
invariant-loop-place l =
    rows_from (shapes_in l.numbers) l.words 0 0 (rows_in l.rows) ≡ rows_from (shapes_in l.numbers) l.words l.place l.least (drop l.place (rows_in l.rows))
