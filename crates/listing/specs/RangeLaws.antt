-- Every number of a listing within 01's ranges is below 2 ^ 32, so it can stand in a packet: part by part, with one law for lists behind their counts.
use Rattle.std.specs.Prelude.{ℕ, ◌^◌, ◌<◌, ◌≤◌, length}
use native.Mathlib.Omega.{arith}
use mathlib.Core.List.{List, [], ◌∷◌, ◌++◌, flat_map}
use Rattle.listing.specs.declared.items.Item.{Item}
use Rattle.listing.specs.declared.items.Item.TheVariants.{Halt, Jmp, Bnz, Load, Store, Compute, ComputeImmediate, Cpush, Cjmp, Label}
use Rattle.listing.specs.Limits.{SHAPES, LABELS}
use Rattle.listing.specs.Listing.{Field, Register, LabelContext, Listing, counted, single, field_numbers, register_numbers, label_numbers, item_numbers, numbers_of, EachAfter, Each, FieldRange, ShapeRange, RegisterRange, LabelRange, ItemRange, Ranges}

-- a number that can stand in a packet
abbrev pub Fits : ℕ → Type 0
Fits n = n < 2 ^ 32

each_append : (xs ys : List ℕ) → Each Fits xs → Each Fits ys → Each Fits (xs ++ ys)
each_append [] ys p q = q
each_append (x ∷ xs) ys p q = (p.0, each_append xs ys p.1 q)

each_flat : {A : Type 0} (numbers : A → List ℕ) (Q : ℕ → A → Type 0) (index : A → ℕ) (last : ℕ) (l : List A) → ((last : ℕ) (a : A) → Q last a → Each Fits (numbers a))
    → EachAfter Q index last l → Each Fits (flat_map numbers l)
unfolding flat_map
each_flat numbers Q index last [] h p = tt
each_flat numbers Q index last (a ∷ l) h p = each_append (numbers a) (flat_map numbers l) (h last a p.0) (each_flat numbers Q index (index a) l h p.1)

each_counted : {A : Type 0} (numbers : A → List ℕ) (Q : ℕ → A → Type 0) (index : A → ℕ) (last : ℕ) (l : List A) → ((last : ℕ) (a : A) → Q last a → Each Fits (numbers a))
    → length l < 2 ^ 32 → EachAfter Q index last l → Each Fits (counted numbers l)
unfolding counted
each_counted numbers Q index last l h c p = (c, each_flat numbers Q index last l h p)

item_fits : (labels : ℕ) (i : Item) → labels ≤ LABELS → ItemRange labels i → Each Fits (item_numbers i)
unfolding item_numbers
item_fits labels Halt k h = omega arith
item_fits labels (Jmp l) k h = omega arith
item_fits labels (Bnz rs l) k h = omega arith
item_fits labels (Load rd rs c) k h = omega arith
item_fits labels (Store rd c rs) k h = omega arith
item_fits labels (Compute op rd rs rt) k h = omega arith
item_fits labels (ComputeImmediate op rd rs i) k h = omega arith
item_fits labels (Cpush l) k h = omega arith
item_fits labels (Cjmp l) k h = omega arith
item_fits labels (Label l) k h = omega arith

module _ (shapes labels : ℕ) (few : shapes ≤ SHAPES) (some : labels ≤ LABELS) where
  field_fits : (last : ℕ) (f : Field) → FieldRange shapes f → Each Fits (field_numbers f)
  unfolding field_numbers
  field_fits last f r = omega arith

  shape_fits : (last : ℕ) (s : List Field) → ShapeRange shapes s → Each Fits (counted field_numbers s)
  shape_fits last s r = each_counted field_numbers (λ last. FieldRange shapes) (λ f. 0) 0 s field_fits (omega arith) r.fields

  register_fits : (last : ℕ) (r : Register) → RegisterRange shapes last r → Each Fits (register_numbers r)
  unfolding register_numbers
  register_fits last r h = omega arith

  label_fits : (last : ℕ) (l : LabelContext) → LabelRange shapes labels l → Each Fits (label_numbers l)
  unfolding label_numbers
  label_fits last l r = (
    omega arith,
    each_append (counted single l.stack) (counted register_numbers l.registers)
        (each_counted single (λ last n. n < labels) (λ n. 0) 0 l.stack (λ last n h. (omega arith, tt)) (omega arith) r.stack)
        (each_counted register_numbers (RegisterRange shapes) (λ (x : Register). x.index) 0 l.registers register_fits (omega arith) r.registers),
  )

pub numbers_fit : (l : Listing) → Ranges l → Each Fits (numbers_of l)
unfolding numbers_of
numbers_fit l r =
    let shapes : ℕ = length l.shapes in
    let labels : ℕ = length l.labels in
    let few : shapes ≤ SHAPES = r.shape_count.1 in
    let some : labels ≤ LABELS = r.label_count.1 in (
      omega arith,
      each_append (counted (counted field_numbers) l.shapes) _
          (each_counted (counted field_numbers) (λ last. ShapeRange shapes) (λ s. 0) 0 l.shapes (shape_fits shapes labels few some) (omega arith) r.shapes)
          (each_append (counted label_numbers l.labels) (counted item_numbers l.items)
          (each_counted label_numbers (λ last. LabelRange shapes labels) (λ x. 0) 0 l.labels (label_fits shapes labels few some) (omega arith) r.labels)
          (each_counted item_numbers (λ last. ItemRange labels) (λ i. 0) 0 l.items (λ last i. item_fits labels i some) (omega arith) r.items)),
    )
