-- The promise is about something: 01's bench piece K1 with two starts meets its hypotheses, and what it says of them is used. Computed are that the packet is accepted, that the starts pass and that both runs halt; that r3 ends alike is not computed.
use Rattle.std.specs.Prelude.{ℕ, ◌≡◌, refl, []}
use Rattle.std.proofs.Common.{arith, sym, ◌∙◌, true≢false}
use Rattle.choice.specs.Pick as choice
use Rattle.number.specs.Number as number
use Rattle.machine.specs.Numbers as limits
use Rattle.machine.specs.Arithmetic as arithmetic
use Rattle.machine.specs.Word as word
use Rattle.machine.specs.Step as step
use Rattle.machine.specs.Run as run
use Rattle.listing.specs.Grammar as grammar
use Rattle.listing.specs.Packet as reading
use Rattle.listing.specs.Parts as parts
use Rattle.rules.specs.Context as context
use Rattle.rules.specs.Rules as rules
use Rattle.checker.specs.Walk as walk
use Rattle.checker.specs.Check as check
use Rattle.eraser.specs.Erase as erase
use Rattle.start.specs.Start as start
use Rattle.service.specs.Numbers as sizes
use Rattle.service.specs.Desk as desk
use Rattle.sound.specs.Contexts as contexts
use Rattle.sound.specs.Halting as halting
use Rattle.sound.specs.Promise.{Served, Halts, StartAlike}
use Rattle.sound.specs.K1.{packet, from, returned}
use Rattle.sound.proofs.Promise.{tells_nothing}

-- to open it is to open all definitions, so that they compute
unfoldable Opened : Type 0
unfolding choice.pick number.last_of number.groups_of limits.CODE_WORDS limits.HEAP_WORDS limits.BUDGET
    arithmetic.signed_of arithmetic.slt_of arithmetic.extend_of arithmetic.compute_of word.whole word.kind_at word.word_of
    step.read_of step.write_of step.does_of step.act_of step.step_of run.after run.acted_of run.acted run.outcome_from run.refusal_of run.run_of
    grammar.within_of grammar.below_of grammar.shapes_from grammar.fields_from grammar.labels_from grammar.stack_from grammar.registers_from grammar.items_from grammar.operands_from grammar.next_of
    reading.due_then reading.found_then reading.end_of reading.numbers_then reading.numbers_from reading.taken_then reading.taken_from reading.numbers_in reading.taken_of
    parts.parts_from parts.behind parts.count_of parts.item_of parts.size_of parts.labels_place parts.items_place parts.shapes_in parts.labels_in parts.items_in
    context.no_registers context.with_listed context.met_of context.same_of rules.first_failing rules.row_of rules.after_of
    walk.is_label walk.label_in walk.block_after walk.due_row walk.all_from walk.is_open walk.or_else walk.enter_row walk.premises_of walk.walk_from walk.walk_of
    check.judged_of check.checked_by check.check_of erase.kept_in erase.needed_of erase.count_behind erase.pass_from erase.entered erase.no_addresses erase.addresses_of erase.code_of
    start.rows_of start.unless start.or_else start.first_of start.rows_from start.is_of_kind start.listed_at start.listed_first start.register_fault start.rows_fault start.fields_fault start.registers_fault start.start_in
    sizes.BLOCK_WORDS desk.right_sizes desk.sizes_of desk.later_fault desk.code_for desk.ran_call desk.serve_by desk.desk_by desk.desk_of
    contexts.goes_on contexts.now_after contexts.now_from halting.place_from
Opened = Unit

-- it is served, whatever r1 holds
pub k1_served : (v : ℕ) → Served packet [] (from v)
unfolding Opened
k1_served v = record { numbers = 60; accepted = refl; passes = refl; sixteen = refl }

-- from 0 and from 9 it halts, with another r2
pub k1_halts : Halts packet [] (from 0) × Halts packet [] (from 9)
unfolding Opened
k1_halts = (refl, refl)

pub k1_differs : (returned 0 2 ≡ 1) × (returned 9 2 ≡ 2)
unfolding Opened
k1_differs = (refl, refl)

-- for an observer at level 0 both starts are alike: r1 and r2 are at level 255, and r3 is 0 in both
pub k1_alike : StartAlike packet [] 0 (from 0) (from 9)
unfolding Opened
k1_alike = record {
  words = λ a kind level w sees. absurd (omega (arith, w.is_a_row));
  registers = (λ sees. absurd (true≢false (sym sees)), (λ sees. refl, (λ sees. refl, tt)));
}

-- so r3, which both halting contexts list at level 0, is told alike
pub k1_same : returned 0 3 ≡ returned 9 3
unfolding Opened
k1_same = (tells_nothing packet [] 0 (from 0) (from 9) (k1_served 0) (k1_served 9) k1_alike k1_halts.0 k1_halts.1).registers 3 (refl, refl) (refl, refl)

-- and is 3 in the second run, as it is in the first
pub k1_told : returned 9 3 ≡ 3
unfolding Opened
k1_told = sym k1_same ∙ refl
