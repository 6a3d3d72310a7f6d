-- The grammar by the variant that is due, and a range by its test, for the proofs of code. `dues` holds the laws for a search.
use Rattle.std.specs.Prelude.{ℕ, ◌≡◌, Result, Ok, Err, ltb}
use Rattle.std.proofs.Common.{refl, sym, ap, ◌∙◌}
use Rattle.choice.specs.Pick.{pick, is_equal, not_equal, through}
use Rattle.refusals.specs.declared.Refusal.{Refusal}
use Rattle.refusals.specs.declared.Refusal.TheVariants.{OutOfRange}
use Rattle.refusals.specs.Refusals.{number_of}
use Rattle.listing.specs.declared.grammar.Wanted.TheVariants.{Edition, ShapeCount, FieldCount, FieldKind, FieldLevel, LabelCount, LabelLevel, StackLength, StackLabel, RegisterCount, RegisterIndex, RegisterKind, RegisterLevel, ItemCount, ItemNumber, OperandLabel, BranchRegister, OperandFirst, OperandSecond, OperandThird}
use Rattle.listing.specs.Due.{Due, Next, Refused}
use Rattle.listing.specs.Limits.{EDITION, SHAPES, FIELDS, LABELS, STACK, REGISTERS, ITEMS, TOP_LEVEL, TOP_PART, TOP_ITEM, WRONG_EDITION, OUT_OF_RANGE}
use Rattle.listing.specs.Grammar.{within_of, below_of, outside_of, not_below_of, shapes_from, fields_from, labels_from, stack_from, registers_from, items_from, operands_from, next_of}

-- by the answer of a test: what comes after, or the refusal
tested : Result (Unit {0}) Refusal → Due → Due
tested (Ok u) after = after
tested (Err refusal) after = Refused (number_of refusal)

module _ (n low high : ℕ) (after : Due) where
  tested_within : within_of n low high after ≡ tested (outside_of n low high) after
  unfolding within_of outside_of tested
  tested_within =
      let on = λ (t : Result (Unit {0}) Refusal). tested t after in
      ap (pick (ltb n low) (Refused OUT_OF_RANGE)) (sym (through on (ltb high n) (Err OutOfRange) (Ok tt))) ∙ sym (through on (ltb n low) (Err OutOfRange) _)

  pub within_kept : (u : Unit {0}) → outside_of n low high ≡ Ok u → within_of n low high after ≡ after
  unfolding tested
  within_kept u e = tested_within ∙ ap (λ (t : Result (Unit {0}) Refusal). tested t after) e

  pub within_refused : (refusal : Refusal) → outside_of n low high ≡ Err refusal → within_of n low high after ≡ Refused (number_of refusal)
  unfolding tested
  within_refused refusal e = tested_within ∙ ap (λ (t : Result (Unit {0}) Refusal). tested t after) e

module _ (n end : ℕ) (after : Due) where
  tested_below : below_of n end after ≡ tested (not_below_of n end) after
  unfolding below_of not_below_of tested
  tested_below = sym (through (λ (t : Result (Unit {0}) Refusal). tested t after) (ltb n end) (Ok tt) (Err OutOfRange))

  pub below_kept : (u : Unit {0}) → not_below_of n end ≡ Ok u → below_of n end after ≡ after
  unfolding tested
  below_kept u e = tested_below ∙ ap (λ (t : Result (Unit {0}) Refusal). tested t after) e

  pub below_refused : (refusal : Refusal) → not_below_of n end ≡ Err refusal → below_of n end after ≡ Refused (number_of refusal)
  unfolding tested
  below_refused refusal e = tested_below ∙ ap (λ (t : Result (Unit {0}) Refusal). tested t after) e

-- what is due after n, variant by variant
module _ (n : ℕ) where
  pub due_edition : n ≡ EDITION → next_of Edition n ≡ Next ShapeCount
  unfolding next_of
  due_edition h = sym (is_equal n EDITION _ _ _ h refl)

  pub due_other_edition : (n ≡ EDITION → ⊥) → next_of Edition n ≡ Refused WRONG_EDITION
  unfolding next_of
  due_other_edition h = sym (not_equal n EDITION _ _ _ h refl)

  pub due_shape_count : next_of ShapeCount n ≡ within_of n 0 SHAPES (shapes_from n n)
  unfolding next_of
  due_shape_count = refl

  pub due_field_count : (shapes more : ℕ) → next_of (FieldCount shapes more) n ≡ within_of n 1 FIELDS (fields_from shapes more n)
  unfolding next_of
  due_field_count shapes more = refl

  pub due_field_kind : (shapes more fields : ℕ) → next_of (FieldKind shapes more fields) n ≡ within_of n 0 shapes (Next (FieldLevel shapes more fields))
  unfolding next_of
  due_field_kind shapes more fields = refl

  pub due_field_level : (shapes more fields : ℕ) → next_of (FieldLevel shapes more fields) n ≡ within_of n 0 TOP_LEVEL (fields_from shapes more fields)
  unfolding next_of
  due_field_level shapes more fields = refl

  pub due_label_count : (shapes : ℕ) → next_of (LabelCount shapes) n ≡ within_of n 1 LABELS (labels_from shapes n n)
  unfolding next_of
  due_label_count shapes = refl

  pub due_label_level : (shapes labels more : ℕ) → next_of (LabelLevel shapes labels more) n ≡ within_of n 0 TOP_LEVEL (Next (StackLength shapes labels more))
  unfolding next_of
  due_label_level shapes labels more = refl

  pub due_stack_length : (shapes labels more : ℕ) → next_of (StackLength shapes labels more) n ≡ within_of n 0 STACK (stack_from shapes labels more n)
  unfolding next_of
  due_stack_length shapes labels more = refl

  pub due_stack_label : (shapes labels more stack : ℕ) → next_of (StackLabel shapes labels more stack) n ≡ below_of n labels (stack_from shapes labels more stack)
  unfolding next_of
  due_stack_label shapes labels more stack = refl

  pub due_register_count : (shapes labels more : ℕ) → next_of (RegisterCount shapes labels more) n ≡ within_of n 0 REGISTERS (registers_from shapes labels more n 0)
  unfolding next_of
  due_register_count shapes labels more = refl

  pub due_register_index : (shapes labels more registers last : ℕ)
      → next_of (RegisterIndex shapes labels more registers last) n ≡ below_of last n (within_of n 1 TOP_PART (Next (RegisterKind shapes labels more registers n)))
  unfolding next_of below_of
  due_register_index shapes labels more registers last = refl

  pub due_register_kind : (shapes labels more registers last : ℕ)
      → next_of (RegisterKind shapes labels more registers last) n ≡ within_of n 0 shapes (Next (RegisterLevel shapes labels more registers last))
  unfolding next_of
  due_register_kind shapes labels more registers last = refl

  pub due_register_level : (shapes labels more registers last : ℕ)
      → next_of (RegisterLevel shapes labels more registers last) n ≡ within_of n 0 TOP_LEVEL (registers_from shapes labels more registers last)
  unfolding next_of
  due_register_level shapes labels more registers last = refl

  pub due_item_count : (labels : ℕ) → next_of (ItemCount labels) n ≡ within_of n 1 ITEMS (items_from labels n)
  unfolding next_of
  due_item_count labels = refl

  pub due_item_number : (labels more : ℕ) → next_of (ItemNumber labels more) n ≡ within_of n 0 TOP_ITEM (operands_from labels more n)
  unfolding next_of
  due_item_number labels more = refl

  pub due_operand_label : (labels more : ℕ) → next_of (OperandLabel labels more) n ≡ below_of n labels (items_from labels more)
  unfolding next_of
  due_operand_label labels more = refl

  pub due_branch_register : (labels more : ℕ) → next_of (BranchRegister labels more) n ≡ within_of n 0 TOP_PART (Next (OperandLabel labels more))
  unfolding next_of
  due_branch_register labels more = refl

  pub due_operand_first : (labels more high : ℕ) → next_of (OperandFirst labels more high) n ≡ within_of n 0 TOP_PART (Next (OperandSecond labels more high))
  unfolding next_of
  due_operand_first labels more high = refl

  pub due_operand_second : (labels more high : ℕ) → next_of (OperandSecond labels more high) n ≡ within_of n 0 TOP_PART (Next (OperandThird labels more high))
  unfolding next_of
  due_operand_second labels more high = refl

  pub due_operand_third : (labels more high : ℕ) → next_of (OperandThird labels more high) n ≡ within_of n 0 high (items_from labels more)
  unfolding next_of
  due_operand_third labels more high = refl

pub ruleset dues = (within_kept, within_refused, below_kept, below_refused, due_edition, due_other_edition, due_shape_count, due_field_count, due_field_kind, due_field_level, due_label_count, due_label_level, due_stack_length, due_stack_label, due_register_count, due_register_index, due_register_kind, due_register_level, due_item_count, due_item_number, due_operand_label, due_branch_register, due_operand_first, due_operand_second, due_operand_third)
