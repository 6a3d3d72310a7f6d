-- Each row of the table of bench pieces holds, by computation.
use Rattle.std.specs.Prelude.{refl}
use mathlib.Core.List.{flat_map}
use Rattle.choice.specs.Pick.{pick}
use Rattle.machine.specs.Numbers.{CODE_WORDS, HEAP_WORDS, BUDGET}
use Rattle.machine.specs.Arithmetic.{signed_of, slt_of, extend_of, compute_of}
use Rattle.machine.specs.Word.{whole, kind_at}
use Rattle.machine.specs.Step.{read_of, write_of, does_of, act_of, step_of}
use Rattle.machine.specs.Run.{after, acted_of, acted, outcome_from, refusal_of, run_of}
use Rattle.number.specs.Number.{last_of, groups_of}
use Rattle.number.specs.Encode.{encode_from, encode_of}
use Rattle.listing.specs.Listing.{Each, counted, field_numbers, register_numbers, label_numbers, item_numbers, numbers_of}
use Rattle.listing.specs.Grammar.{within_of, below_of, shapes_from, fields_from, labels_from, stack_from, registers_from, items_from, operands_from, next_of}
use Rattle.listing.specs.Packet.{due_then, found_then, numbers_then, numbers_from, numbers_in, taken_then, taken_from, taken_of, end_of}
use Rattle.listing.specs.Parts.{parts_from, behind, count_of, item_of, size_of, labels_place, items_place, shapes_in, labels_in, items_in}
use Rattle.listing.specs.Bytes.{bytes_of, packet_bytes}
use Rattle.rules.specs.Context.{no_registers, with_listed, met_of, same_of}
use Rattle.rules.specs.Rules.{first_failing, row_of, after_of}
use Rattle.checker.specs.Walk.{is_label, label_in, block_after, due_row, all_from, is_open, or_else, enter_row, premises_of, walk_from, walk_of}
use Rattle.checker.specs.Check.{judged_of, checked_by, check_of}
use Rattle.eraser.specs.Erase.{kept_in, count_behind, pass_from, entered, no_addresses, addresses_of, code_of}
use Rattle.service.specs.Desk.{code_for}
use Rattle.pieces.specs.Pieces.{Holds, pieces}

-- each row of the table holds
pub each_piece_holds : Each Holds pieces
unfolding Holds pieces flat_map
    pick last_of groups_of encode_from encode_of
    counted field_numbers register_numbers label_numbers item_numbers numbers_of bytes_of packet_bytes
    within_of below_of shapes_from fields_from labels_from stack_from registers_from items_from operands_from next_of
    due_then found_then numbers_then numbers_from numbers_in taken_then taken_from taken_of end_of
    parts_from behind count_of item_of size_of labels_place items_place shapes_in labels_in items_in
    no_registers with_listed met_of same_of first_failing row_of after_of
    is_label label_in block_after due_row all_from is_open or_else enter_row premises_of walk_from walk_of judged_of checked_by check_of
    kept_in count_behind pass_from entered no_addresses addresses_of code_of code_for
    CODE_WORDS HEAP_WORDS BUDGET signed_of slt_of extend_of compute_of whole kind_at read_of write_of does_of act_of step_of
    after acted_of acted outcome_from refusal_of run_of
each_piece_holds = (refl, (refl, (refl, (refl, (refl, (refl, (refl, (refl, (refl, (refl, (refl, (refl, (refl, (refl, (refl, (refl, (refl, (refl, (refl, tt)))))))))))))))))))
