-- 01, "The packet": the numbers of a packet in order. `Wanted` says which number is due and how much is still to come; `next_of` says what is due after it: the next, nothing more, or that it is refused, with 3 for the edition and else 4.
use Rattle.std.specs.Prelude.{ℕ, ◌-◌, Result, Ok, Err, ltb, eqb}
use Rattle.choice.specs.Pick.{pick}
use Rattle.refusals.specs.declared.Refusal.{Refusal}
use Rattle.refusals.specs.declared.Refusal.TheVariants.{OutOfRange}
use Rattle.listing.specs.declared.grammar.Wanted.{Wanted}
use Rattle.listing.specs.declared.grammar.Wanted.TheVariants.{Edition, ShapeCount, FieldCount, FieldKind, FieldLevel, LabelCount, LabelLevel, StackLength, StackLabel, RegisterCount, RegisterIndex, RegisterKind, RegisterLevel, ItemCount, ItemNumber, OperandLabel, BranchRegister, OperandFirst, OperandSecond, OperandThird}
use Rattle.listing.specs.Due.{Due}
use Rattle.listing.specs.Due.{Next, End, Refused}
use Rattle.listing.specs.Limits.{EDITION, SHAPES, FIELDS, LABELS, STACK, REGISTERS, ITEMS, TOP_LEVEL, TOP_PART, TOP_IMMEDIATE, TOP_ITEM, WRONG_EDITION, OUT_OF_RANGE}

-- a number from low to high, or below an end; else it is refused
unfoldable pub within_of : ℕ → ℕ → ℕ → Due → Due
within_of n low high after = pick (ltb n low) (Refused OUT_OF_RANGE) (pick (ltb high n) (Refused OUT_OF_RANGE) after)

unfoldable pub below_of : ℕ → ℕ → Due → Due
below_of n end after = pick (ltb n end) after (Refused OUT_OF_RANGE)

-- the same as a test alone, which answers why the number is refused
unfoldable pub outside_of : ℕ → ℕ → ℕ → Result (Unit {0}) Refusal
outside_of n low high = pick (ltb n low) (Err OutOfRange) (pick (ltb high n) (Err OutOfRange) (Ok tt))

unfoldable pub not_below_of : ℕ → ℕ → Result (Unit {0}) Refusal
not_below_of n end = pick (ltb n end) (Ok tt) (Err OutOfRange)

-- what is due where n shapes, fields, labels, stack labels, registers or items are still to come
unfoldable pub shapes_from : ℕ → ℕ → Due
shapes_from shapes n = pick (eqb n 0) (Next (LabelCount shapes)) (Next (FieldCount shapes (n - 1)))

unfoldable pub fields_from : ℕ → ℕ → ℕ → Due
fields_from shapes more n = pick (eqb n 0) (shapes_from shapes more) (Next (FieldKind shapes more (n - 1)))

unfoldable pub labels_from : ℕ → ℕ → ℕ → Due
labels_from shapes labels n = pick (eqb n 0) (Next (ItemCount labels)) (Next (LabelLevel shapes labels (n - 1)))

unfoldable pub stack_from : ℕ → ℕ → ℕ → ℕ → Due
stack_from shapes labels more n = pick (eqb n 0) (Next (RegisterCount shapes labels more)) (Next (StackLabel shapes labels more (n - 1)))

unfoldable pub registers_from : ℕ → ℕ → ℕ → ℕ → ℕ → Due
registers_from shapes labels more n last =
    pick (eqb n 0) (labels_from shapes labels more) (Next (RegisterIndex shapes labels more (n - 1) last))

unfoldable pub items_from : ℕ → ℕ → Due
items_from labels n = pick (eqb n 0) End (Next (ItemNumber labels (n - 1)))

-- the operands of an item: none for halt; a label for jmp, cpush, cjmp and label; a register and a label for bnz; else three, the last of which is an immediate for items 10 to 14
unfoldable pub operands_from : ℕ → ℕ → ℕ → Due
operands_from labels more item =
    pick (eqb item 0) (items_from labels more)
    (pick (eqb item 1) (Next (OperandLabel labels more))
    (pick (eqb item 2) (Next (BranchRegister labels more))
    (pick (ltb item 10) (Next (OperandFirst labels more TOP_PART))
    (pick (ltb item 15) (Next (OperandFirst labels more TOP_IMMEDIATE)) (Next (OperandLabel labels more))))))

-- what is due after the number n
unfoldable pub next_of : Wanted → ℕ → Due
next_of Edition n = pick (eqb n EDITION) (Next ShapeCount) (Refused WRONG_EDITION)
next_of ShapeCount n = within_of n 0 SHAPES (shapes_from n n)
next_of (FieldCount shapes more) n = within_of n 1 FIELDS (fields_from shapes more n)
next_of (FieldKind shapes more fields) n = within_of n 0 shapes (Next (FieldLevel shapes more fields))
next_of (FieldLevel shapes more fields) n = within_of n 0 TOP_LEVEL (fields_from shapes more fields)
next_of (LabelCount shapes) n = within_of n 1 LABELS (labels_from shapes n n)
next_of (LabelLevel shapes labels more) n = within_of n 0 TOP_LEVEL (Next (StackLength shapes labels more))
next_of (StackLength shapes labels more) n = within_of n 0 STACK (stack_from shapes labels more n)
next_of (StackLabel shapes labels more stack) n = below_of n labels (stack_from shapes labels more stack)
next_of (RegisterCount shapes labels more) n = within_of n 0 REGISTERS (registers_from shapes labels more n 0)
next_of (RegisterIndex shapes labels more registers last) n =
    pick (ltb last n) (within_of n 1 TOP_PART (Next (RegisterKind shapes labels more registers n))) (Refused OUT_OF_RANGE)
next_of (RegisterKind shapes labels more registers last) n = within_of n 0 shapes (Next (RegisterLevel shapes labels more registers last))
next_of (RegisterLevel shapes labels more registers last) n = within_of n 0 TOP_LEVEL (registers_from shapes labels more registers last)
next_of (ItemCount labels) n = within_of n 1 ITEMS (items_from labels n)
next_of (ItemNumber labels more) n = within_of n 0 TOP_ITEM (operands_from labels more n)
next_of (OperandLabel labels more) n = below_of n labels (items_from labels more)
next_of (BranchRegister labels more) n = within_of n 0 TOP_PART (Next (OperandLabel labels more))
next_of (OperandFirst labels more high) n = within_of n 0 TOP_PART (Next (OperandSecond labels more high))
next_of (OperandSecond labels more high) n = within_of n 0 TOP_PART (Next (OperandThird labels more high))
next_of (OperandThird labels more high) n = within_of n 0 high (items_from labels more)
