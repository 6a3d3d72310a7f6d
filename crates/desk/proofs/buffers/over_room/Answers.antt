-- `over_room`: table and heap are whole words, within the limits, and where one is not small the rooms are large ones.
use Rattle.std.proofs.Common.{◌∙◌}
use native.Mathlib.Omega.{arith}
use Rattle.machine.specs.Numbers.{CODE_WORDS, HEAP_WORDS}
use Rattle.desk.specs.WorkLaws.{past_small_table, past_small_heap, middle_rooms, largest_rooms}
use Rattle.desk.proofs.buffers.over_room.Goals.{else-table-via-then-table+else-heap, else-table-via-else-table}
use Rattle.desk.proofs.buffers.over_room.Goals as goal

pub over_rooms-requires-then-heap-2-clause-table_in_bounds : goal.over_rooms-requires-then-heap-2-clause-table_in_bounds
unfolding CODE_WORDS
over_rooms-requires-then-heap-2-clause-table_in_bounds c = omega arith

pub over_rooms-requires-2-clause-table_in_bounds : goal.over_rooms-requires-2-clause-table_in_bounds
unfolding CODE_WORDS
over_rooms-requires-2-clause-table_in_bounds c = omega arith

pub over_rooms-requires-2-clause-heap_in_bounds : goal.over_rooms-requires-2-clause-heap_in_bounds
unfolding HEAP_WORDS
over_rooms-requires-2-clause-heap_in_bounds c = omega arith

pub over_rooms-requires-then-heap-2-clause-smallest : goal.over_rooms-requires-then-heap-2-clause-smallest
unfolding CODE_WORDS
over_rooms-requires-then-heap-2-clause-smallest c =
    middle_rooms _ (omega (arith, c.if-heap-2.true))
    ∙ elim c.else-table.branch [ else-table-via-then-table+else-heap w ↦ past_small_heap _ _ (omega (arith, w.if-heap)) | else-table-via-else-table w ↦ past_small_table _ _ (omega (arith, w.if-table)) ]

pub over_rooms-requires-2-clause-smallest : goal.over_rooms-requires-2-clause-smallest
unfolding CODE_WORDS HEAP_WORDS
over_rooms-requires-2-clause-smallest c =
    largest_rooms _ (omega (arith, c.if-heap-2.false))
    ∙ elim c.else-table.branch [ else-table-via-then-table+else-heap w ↦ past_small_heap _ _ (omega (arith, w.if-heap)) | else-table-via-else-table w ↦ past_small_table _ _ (omega (arith, w.if-table)) ]
