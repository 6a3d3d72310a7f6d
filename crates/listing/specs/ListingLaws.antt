-- A listing is a row of numbers that the grammar takes, and the other way round: the numbers of a listing in its ranges are taken to the end (`listing_taken`), each row taken to the end is the numbers of such a listing (`taken_listing`), and of only one (`numbers_injective`). All three are the reading of a listing, put together from the readings of its parts in the packet's order.
use Rattle.std.specs.Prelude.{ℕ, ◌<◌, ◌≡◌, List, [], ◌∷◌, ◌++◌, length, ltb, eqb}
use Rattle.std.proofs.Math.Path.{refl}
use Rattle.std.proofs.Common.{sym, ap, ◌∙◌, append-nil, ltb-true, eqb-true}
use Rattle.choice.specs.Pick.{is_less, is_equal}
use Rattle.listing.specs.declared.grammar.Wanted.{Wanted}
use Rattle.listing.specs.declared.grammar.Wanted.TheVariants.{Edition, ShapeCount, FieldCount, FieldKind, FieldLevel, LabelCount, LabelLevel, StackLength, StackLabel, RegisterCount, RegisterIndex, RegisterKind, RegisterLevel, ItemCount, ItemNumber}
use Rattle.listing.specs.Due.{Due}
use Rattle.listing.specs.Due.{Next, End}
use Rattle.listing.specs.Limits.{EDITION, SHAPES, FIELDS, LABELS, STACK, REGISTERS, ITEMS, TOP_LEVEL, TOP_PART, OUT_OF_RANGE, WRONG_EDITION, LEFT_OVER}
use Rattle.listing.specs.Listing.{Register, Listing, single, counted, field_numbers, register_numbers, label_numbers, item_numbers, numbers_of, Within, Each, EachAfter, FieldRange, ShapeRange, RegisterRange, LabelRange, ItemRange, Ranges}
use Rattle.listing.specs.Grammar.{within_of, shapes_from, fields_from, labels_from, stack_from, registers_from, items_from, next_of}
use Rattle.listing.specs.Fold.{fold_of}
use Rattle.listing.specs.ItemLaws.{item_read}
use Rattle.listing.specs.Sorts.{Sort, within_read, below_read, number_read, in_turn, made_of, counted_read, refused_never_ends, else_refused, within_range, within_taken}

-- a kind and a level, of a field or of a register
field_read : (kind level : Wanted) (shapes : ℕ) (after : Due) → ((n : ℕ) → within_of n 0 shapes (Next level) ≡ next_of kind n) → ((n : ℕ) → within_of n 0 TOP_LEVEL after ≡ next_of level n)
    → Sort (Next kind) field_numbers (FieldRange shapes) (λ f. after)
unfolding field_numbers
field_read kind level shapes after kinds levels =
    made_of (λ p. record { kind = p.0; level = p.1 }) (λ p h. (record { kind = h.0; level = h.1 }, refl, refl)) (λ f h. ((f.kind, f.level), (h.kind, h.level), refl))
    (in_turn (within_read kind 0 shapes (λ n. Next level) kinds) (λ k. within_read level 0 TOP_LEVEL (λ n. after) levels))

shape_read : (shapes more : ℕ) → Sort (Next (FieldCount shapes more)) (counted field_numbers) (ShapeRange shapes) (λ s. shapes_from shapes more)
unfolding next_of fields_from
shape_read shapes more =
    made_of (λ s. s) (λ s h. (record { count = h.0; fields = h.1 }, refl, refl)) (λ s h. (s, (h.count, h.fields), refl))
    (counted_read field_numbers (λ n last. FieldRange shapes) (λ f. 0) (FieldCount shapes more) 1 FIELDS (λ n last. FieldKind shapes more) (λ n. shapes_from shapes more) (λ n. refl)
    (λ n last i. field_read (FieldKind shapes more i) (FieldLevel shapes more i) shapes (fields_from shapes more i) (λ k. refl) (λ k. refl)))

shapes_read : Sort (Next ShapeCount) (counted (counted field_numbers)) (λ l. Within 0 SHAPES (length l) × Each (ShapeRange (length l)) l) (λ l. Next (LabelCount (length l)))
unfolding next_of shapes_from
shapes_read =
    counted_read (counted field_numbers) (λ n last. ShapeRange n) (λ s. 0) ShapeCount 0 SHAPES (λ n last. FieldCount n) (λ n. Next (LabelCount n)) (λ n. refl) (λ n last. shape_read n)

-- a label, `more` of which are still to come
module _ (shapes labels more : ℕ) where
  index_read : (registers last : ℕ) → Sort (Next (RegisterIndex shapes labels more registers last)) single (λ n. (last < n) × Within 1 TOP_PART n) (λ n. Next (RegisterKind shapes labels more registers n))
  unfolding next_of
  index_read registers last =
      number_read (RegisterIndex shapes labels more registers last) (λ n. (last < n) × Within 1 TOP_PART n) (λ n. Next (RegisterKind shapes labels more registers n))
      (λ n h. is_less last n _ _ _ h.0 (within_taken 1 TOP_PART n _ h.1))
      (λ n ns e.
      let above = else_refused (ltb last n) OUT_OF_RANGE _ ns e in
      (ltb-true last n above.0, within_range 1 TOP_PART n _ ns above.1))

  register_read : (registers last : ℕ)
      → Sort (Next (RegisterIndex shapes labels more registers last)) register_numbers (RegisterRange shapes last) (λ r. registers_from shapes labels more registers r.index)
  unfolding next_of register_numbers field_numbers
  register_read registers last =
      made_of (λ p. record { index = p.0; kind = p.1.kind; level = p.1.level })
      (λ p h. (record { ascending = h.0.0; index = h.0.1; kind = h.1.kind; level = h.1.level }, refl, refl))
      (λ r h. ((r.index, record { kind = r.kind; level = r.level }), ((h.ascending, h.index), record { kind = h.kind; level = h.level }), refl))
      (in_turn (index_read registers last)
      (λ n. field_read (RegisterKind shapes labels more registers n) (RegisterLevel shapes labels more registers n) shapes (registers_from shapes labels more registers n) (λ k. refl) (λ k. refl)))

  registers_read : Sort (Next (RegisterCount shapes labels more)) (counted register_numbers)
      (λ l. Within 0 REGISTERS (length l) × EachAfter (RegisterRange shapes) (λ (r : Register). r.index) 0 l) (λ l. labels_from shapes labels more)
  unfolding next_of registers_from
  registers_read =
      counted_read register_numbers (λ n. RegisterRange shapes) (λ r. r.index) (RegisterCount shapes labels more) 0 REGISTERS
      (λ n last i. RegisterIndex shapes labels more i last) (λ n. labels_from shapes labels more) (λ n. refl) (λ n last i. register_read i last)

  stack_read : Sort (Next (StackLength shapes labels more)) (counted single) (λ l. Within 0 STACK (length l) × Each (λ (i : ℕ). i < labels) l) (λ l. Next (RegisterCount shapes labels more))
  unfolding next_of stack_from
  stack_read =
      counted_read single (λ n last l. l < labels) (λ l. 0) (StackLength shapes labels more) 0 STACK
      (λ n last. StackLabel shapes labels more) (λ n. Next (RegisterCount shapes labels more)) (λ n. refl)
      (λ n last i. below_read (StackLabel shapes labels more i) labels (stack_from shapes labels more i) (λ k. refl))

  label_read : Sort (Next (LabelLevel shapes labels more)) label_numbers (LabelRange shapes labels) (λ l. labels_from shapes labels more)
  unfolding next_of label_numbers
  label_read =
      made_of (λ p. record { level = p.0; stack = p.1.0; registers = p.1.1 })
      (λ p h. (record { level = h.0; depth = h.1.0.0; stack = h.1.0.1; count = h.1.1.0; registers = h.1.1.1 }, refl, refl))
      (λ l h. ((l.level, (l.stack, l.registers)), (h.level, ((h.depth, h.stack), (h.count, h.registers))), refl))
      (in_turn (within_read (LabelLevel shapes labels more) 0 TOP_LEVEL (λ n. Next (StackLength shapes labels more)) (λ n. refl)) (λ n. in_turn stack_read (λ s. registers_read)))

labels_read : (shapes : ℕ) → Sort (Next (LabelCount shapes)) (counted label_numbers) (λ l. Within 1 LABELS (length l) × Each (LabelRange shapes (length l)) l) (λ l. Next (ItemCount (length l)))
unfolding next_of labels_from
labels_read shapes =
    counted_read label_numbers (λ n last. LabelRange shapes n) (λ l. 0) (LabelCount shapes) 1 LABELS (λ n last. LabelLevel shapes n) (λ n. Next (ItemCount n)) (λ n. refl) (λ n last. label_read shapes n)

items_read : (labels : ℕ) → Sort (Next (ItemCount labels)) (counted item_numbers) (λ l. Within 1 ITEMS (length l) × Each (ItemRange labels) l) (λ l. End)
unfolding next_of items_from
items_read labels =
    counted_read item_numbers (λ n last. ItemRange labels) (λ i. 0) (ItemCount labels) 1 ITEMS (λ n last. ItemNumber labels) (λ n. End) (λ n. refl) (λ n last. item_read labels)

edition_read : Sort {A = Unit} (Next Edition) (λ u. single EDITION) (λ u. Unit) (λ u. Next ShapeCount)
unfolding next_of
edition_read =
    made_of (λ n. tt) (λ n h. (tt, ap single h, refl)) (λ u h. (EDITION, refl, refl))
    (number_read Edition (λ n. n ≡ EDITION) (λ n. Next ShapeCount) (λ n h. is_equal n EDITION _ _ _ h refl)
    (λ n ns e. eqb-true n EDITION (else_refused (eqb n EDITION) WRONG_EDITION (Next ShapeCount) ns e).0))

listing_read : Sort (Next Edition) numbers_of Ranges (λ l. End)
unfolding numbers_of
listing_read =
    made_of (λ p. record { shapes = p.1.0; labels = p.1.1.0; items = p.1.1.1 })
    (λ p h. (
      record {
        shape_count = h.1.0.0;
        shapes = h.1.0.1;
        label_count = h.1.1.0.0;
        labels = h.1.1.0.1;
        item_count = h.1.1.1.0;
        items = h.1.1.1.1;
      },
      refl,
      refl,
    ))
    (λ l h. ((tt, (l.shapes, (l.labels, l.items))), (tt, ((h.shape_count, h.shapes), ((h.label_count, h.labels), (h.item_count, h.items)))), refl))
    (in_turn edition_read (λ u. in_turn shapes_read (λ s. in_turn (labels_read (length s)) (λ l. items_read (length l)))))

nothing_left : (ns : List ℕ) → fold_of End ns ≡ End → ns ≡ []
unfolding fold_of
nothing_left [] e = refl
nothing_left (n ∷ ns) e = absurd (refused_never_ends LEFT_OVER [] e)

pub listing_taken : (l : Listing) → Ranges l → fold_of (Next Edition) (numbers_of l) ≡ End
unfolding fold_of
listing_taken l h = rw append-nil at (listing_read.taken l [] h)

pub taken_listing : (ns : List ℕ) → fold_of (Next Edition) ns ≡ End → (l : Listing) × Ranges l × (numbers_of l ≡ ns)
taken_listing ns e =
    let x = listing_read.found ns e in
    (x.value, x.in_range, sym (x.read ∙ (ap (λ (r : List ℕ). numbers_of x.value ++ r) (nothing_left x.rest x.ended) ∙ append-nil (numbers_of x.value))))

pub numbers_injective : (l l' : Listing) → Ranges l → Ranges l' → numbers_of l ≡ numbers_of l' → l ≡ l'
numbers_injective l l' h h' same = (listing_read.alone l l' [] [] h h' (ap (λ (ns : List ℕ). ns ++ []) same)).0
