-- Where a shape's fields and the first label's registers stand among the numbers: one law for each way through the code that finds them. `shapes`, `listeds` and `firsts` hold the laws for a search.
use Rattle.std.specs.Prelude.{ℕ, ◌+◌, ◌<◌, ◌≤◌, ◌≡◌, length}
use Rattle.std.proofs.Common.{arith, ◌∙◌}
use Rattle.std.proofs.Math.Path.{refl, sym, ap}
use mathlib.Core.List.{List, []}
use Rattle.listing.specs.declared.items.Item.{Item}
use Rattle.listing.specs.declared.items.Item.TheVariants.{Halt, Jmp, Bnz, Load, Store, Compute, ComputeImmediate, Cpush, Cjmp, Label}
use Rattle.listing.specs.Limits.{SHAPES, FIELDS, LABELS, STACK, REGISTERS, ITEMS}
use Rattle.listing.specs.Listing.{Field, Register, LabelContext}
use Rattle.listing.specs.Parts.{parts_from, behind, count_at, field_at, shape_at, behind_shape, register_at, registers_at, label_at, behind_label, item_at, behind_item, labels_place, items_place, shapes_in, labels_in, items_in}
use Rattle.listing.specs.PartLaws.{parts_more, parts_none, parts_length, part_stands, no_part}
use Rattle.start.specs.Start.{shape_of, listed_by, listed_at, listed_first, first_listed}

-- so many fields, and so many registers, from a place on
abbrev pub fields_in : List ℕ → ℕ → ℕ → List Field
fields_in ns at n = parts_from (field_at ns) (λ p. p + 2) at n

abbrev pub registers_in : List ℕ → ℕ → ℕ → List Register
registers_in ns at n = parts_from (register_at ns) (λ p. p + 3) at n

-- a shape, of which there are n
module _ (ns : List ℕ) (s n : ℕ) (counted : n ≡ count_at SHAPES ns 1) where
  pub shape_there : (at count : ℕ) → s < n → at ≡ behind (behind_shape ns) 2 s → count ≡ count_at FIELDS ns at → shape_of (shapes_in ns) s ≡ fields_in ns (at + 1) count
  unfolding shapes_in
  shape_there at count h p q =
      part_stands (shape_at ns) (behind_shape ns) [] (count_at SHAPES ns 1) 2 s (omega (arith, counted)) ∙ ap (shape_at ns) (sym p) ∙ ap (fields_in ns (at + 1)) (sym q)

  pub shape_not_there : n ≤ s → shape_of (shapes_in ns) s ≡ fields_in ns 0 0
  unfolding shapes_in parts_from
  shape_not_there h = no_part (shape_at ns) (behind_shape ns) [] (count_at SHAPES ns 1) 2 s (omega (arith, counted))

  -- the shapes that exist
  pub shapes_counted : n ≡ length (shapes_in ns)
  unfolding shapes_in
  shapes_counted = counted ∙ sym (parts_length (shape_at ns) (behind_shape ns) 2 (count_at SHAPES ns 1))

pub ruleset shapes = (shape_there, shape_not_there)

-- a label, of which there are n
module _ (ns : List ℕ) (l n place : ℕ) (stands : place ≡ labels_place ns) (counted : n ≡ count_at LABELS ns place) where
  labels_left : labels_in ns ≡ parts_from (label_at ns) (behind_label ns) (place + 1) n
  unfolding labels_in
  labels_left = rw (← stands) (ap (parts_from (label_at ns) (behind_label ns) (place + 1)) (sym counted))

  pub label_there : (at deep count : ℕ) → l < n → at ≡ behind (behind_label ns) (place + 1) l → deep ≡ count_at STACK ns (at + 1) → count ≡ count_at REGISTERS ns (at + 2 + deep)
      → listed_by (labels_in ns) l ≡ registers_in ns (at + 2 + deep + 1) count
  label_there at deep count h p d q =
      ap (λ (labels : List LabelContext). listed_by labels l) labels_left
      ∙ ap (λ (t : LabelContext). t.registers) (part_stands (label_at ns) (behind_label ns) _ n (place + 1) l h ∙ ap (label_at ns) (sym p))
      ∙ ap (λ (k : ℕ). registers_at ns (at + 2 + k)) (sym d)
      ∙ ap (registers_in ns (at + 2 + deep + 1)) (sym q)

  pub label_not_there : n ≤ l → listed_by (labels_in ns) l ≡ registers_in ns 0 0
  unfolding parts_from
  label_not_there h =
      ap (λ (labels : List LabelContext). listed_by labels l) labels_left
      ∙ ap (λ (t : LabelContext). t.registers) (no_part (label_at ns) (behind_label ns) _ n (place + 1) l h)

pub ruleset listeds = (label_there, label_not_there)

-- an item that places a label, and one that places none
module _ (labels : List LabelContext) (i : Item) where
  pub label_lists : (l : ℕ) (r : List Register) → i ≡ Label l → listed_by labels l ≡ r → listed_at labels i ≡ r
  unfolding listed_at
  label_lists l r e p = ap (listed_at labels) e ∙ p

pub other_lists : (ns : List ℕ) (labels : List LabelContext) (i : Item) → ((l : ℕ) → i ≡ Label l → ⊥) → listed_at labels i ≡ registers_in ns 0 0
unfolding listed_at parts_from
other_lists ns labels Halt n = refl
other_lists ns labels (Jmp l) n = refl
other_lists ns labels (Bnz rs l) n = refl
other_lists ns labels (Load rd rs c) n = refl
other_lists ns labels (Store rd c rs) n = refl
other_lists ns labels (Compute op rd rs rt) n = refl
other_lists ns labels (ComputeImmediate op rd rs i) n = refl
other_lists ns labels (Cpush l) n = refl
other_lists ns labels (Cjmp l) n = refl
other_lists ns labels (Label l) n = absurd (n l refl)

-- item 0, where there are n items
module _ (ns : List ℕ) (n place : ℕ) (stands : place ≡ items_place ns) (counted : n ≡ count_at ITEMS ns place) where
  items_left : items_in ns ≡ parts_from (item_at ns) (behind_item ns) (place + 1) n
  unfolding items_in
  items_left = rw (← stands) (ap (parts_from (item_at ns) (behind_item ns) (place + 1)) (sym counted))

  pub first_there : (item : Item) (r : List Register) → 0 < n → item ≡ item_at ns (place + 1) → listed_at (labels_in ns) item ≡ r → first_listed ns ≡ r
  unfolding listed_first
  first_there item r h e p =
      ap (listed_first (labels_in ns)) (items_left ∙ parts_more (item_at ns) (behind_item ns) (place + 1) n h) ∙ ap (listed_at (labels_in ns)) (sym e) ∙ p

  pub first_not_there : n ≤ 0 → first_listed ns ≡ registers_in ns 0 0
  unfolding listed_first parts_from
  first_not_there h = ap (listed_first (labels_in ns)) (items_left ∙ parts_none (item_at ns) (behind_item ns) (place + 1) n h)

pub ruleset firsts = (first_there, first_not_there)
