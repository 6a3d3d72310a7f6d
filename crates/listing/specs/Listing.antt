-- 01, "Levels, words, types" and "The packet": a listing as data, its numbers in the packet's order, and its ranges. ListingLaws ties it to the grammar.
use Rattle.std.specs.Prelude.{ℕ, ◌≤◌, ◌<◌, length}
use mathlib.Core.List.{List, [], ◌∷◌, ◌++◌, flat_map}
use Rattle.listing.specs.declared.items.Item.{Item}
use Rattle.listing.specs.declared.items.Item.TheVariants.{Halt, Jmp, Bnz, Load, Store, Compute, ComputeImmediate, Cpush, Cjmp, Label}
use Rattle.listing.specs.Limits.{EDITION, SHAPES, FIELDS, LABELS, STACK, REGISTERS, ITEMS, TOP_LEVEL, TOP_PART, TOP_IMMEDIATE}

-- a field of a shape; its kind is 0 for an integer, k for a pointer to shape k − 1
pub record Field : Type 0 where
  pub kind : ℕ
  pub level : ℕ

-- a register that a context lists
pub record Register : Type 0 where
  pub index : ℕ
  pub kind : ℕ
  pub level : ℕ

-- a label's context: its pc level, its stack of labels, top first, and the registers that it lists
pub record LabelContext : Type 0 where
  pub level : ℕ
  pub stack : List ℕ
  pub registers : List Register

-- a shape is its fields
pub record Listing : Type 0 where
  pub shapes : List (List Field)
  pub labels : List LabelContext
  pub items : List Item

-- the numbers of a list: its count, then the numbers of each element
unfoldable pub counted : {A : Type 0} → (A → List ℕ) → List A → List ℕ
counted numbers l = length l ∷ flat_map numbers l

-- a number alone
abbrev pub single : ℕ → List ℕ
single n = n ∷ []

-- per field its kind and level; per register its index, kind and level; per label its pc level, its stack and its registers
unfoldable pub field_numbers : Field → List ℕ
field_numbers f = f.kind ∷ f.level ∷ []

unfoldable pub register_numbers : Register → List ℕ
register_numbers r = r.index ∷ r.kind ∷ r.level ∷ []

unfoldable pub label_numbers : LabelContext → List ℕ
label_numbers l = l.level ∷ (counted single l.stack ++ counted register_numbers l.registers)

-- the table of items: the item number, then its operands
unfoldable pub item_numbers : Item → List ℕ
item_numbers Halt = 0 ∷ []
item_numbers (Jmp l) = 1 ∷ l ∷ []
item_numbers (Bnz rs l) = 2 ∷ rs ∷ l ∷ []
item_numbers (Load rd rs c) = 3 ∷ rd ∷ rs ∷ c ∷ []
item_numbers (Store rd c rs) = 4 ∷ rd ∷ c ∷ rs ∷ []
item_numbers (Compute op rd rs rt) = op ∷ rd ∷ rs ∷ rt ∷ []
item_numbers (ComputeImmediate op rd rs i) = op ∷ rd ∷ rs ∷ i ∷ []
item_numbers (Cpush l) = 15 ∷ l ∷ []
item_numbers (Cjmp l) = 16 ∷ l ∷ []
item_numbers (Label l) = 17 ∷ l ∷ []

-- the numbers of a listing in the packet's order
unfoldable pub numbers_of : Listing → List ℕ
numbers_of l = EDITION ∷ (counted (counted field_numbers) l.shapes ++ (counted label_numbers l.labels ++ counted item_numbers l.items))

-- a number from low to high
abbrev pub Within : ℕ → ℕ → ℕ → Type 0
Within low high n = (low ≤ n) × (n ≤ high)

-- each element of a list meets P, which is also told the index of the element before it, for the first one `last`
abbrev pub EachAfter : {A : Type 0} → (ℕ → A → Type 0) → (A → ℕ) → ℕ → List A → Type 0
EachAfter P index last [] = Unit
EachAfter P index last (a ∷ l) = P last a × EachAfter P index (index a) l

-- each element of a list meets P
abbrev pub Each : {A : Type 0} → (A → Type 0) → List A → Type 0
Each P = EachAfter (λ last. P) (λ a. 0) 0

-- kinds are at most the shape count, levels 0 to 255
pub record FieldRange (shapes : ℕ) (f : Field) : Type 0 where
  pub kind : Within 0 shapes f.kind
  pub level : Within 0 TOP_LEVEL f.level

-- a shape is 1 to 16 fields
pub record ShapeRange (shapes : ℕ) (s : List Field) : Type 0 where
  pub count : Within 1 FIELDS (length s)
  pub fields : Each (FieldRange shapes) s

-- indices 1 to 15, strictly ascending: last is the index before, 0 for the first register
pub record RegisterRange (shapes last : ℕ) (r : Register) : Type 0 where
  pub ascending : last < r.index
  pub index : Within 1 TOP_PART r.index
  pub kind : Within 0 shapes r.kind
  pub level : Within 0 TOP_LEVEL r.level

-- a stack of 0 to 16 labels, which are below the label count; 0 to 15 registers
pub record LabelRange (shapes labels : ℕ) (l : LabelContext) : Type 0 where
  pub level : Within 0 TOP_LEVEL l.level
  pub depth : Within 0 STACK (length l.stack)
  pub stack : Each (λ (n : ℕ). n < labels) l.stack
  pub count : Within 0 REGISTERS (length l.registers)
  pub registers : EachAfter (RegisterRange shapes) (λ (r : Register). r.index) 0 l.registers

-- the operands: registers and c from 0 to 15, labels below the label count, immediates
abbrev pub ItemRange : ℕ → Item → Type 0
ItemRange labels Halt = Unit
ItemRange labels (Jmp l) = l < labels
ItemRange labels (Bnz rs l) = Within 0 TOP_PART rs × (l < labels)
ItemRange labels (Load rd rs c) = Within 0 TOP_PART rd × Within 0 TOP_PART rs × Within 0 TOP_PART c
ItemRange labels (Store rd c rs) = Within 0 TOP_PART rd × Within 0 TOP_PART c × Within 0 TOP_PART rs
ItemRange labels (Compute op rd rs rt) = Within 5 9 op × Within 0 TOP_PART rd × Within 0 TOP_PART rs × Within 0 TOP_PART rt
ItemRange labels (ComputeImmediate op rd rs i) = Within 10 14 op × Within 0 TOP_PART rd × Within 0 TOP_PART rs × Within 0 TOP_IMMEDIATE i
ItemRange labels (Cpush l) = l < labels
ItemRange labels (Cjmp l) = l < labels
ItemRange labels (Label l) = l < labels

-- 0 to 64 shapes, 1 to 128 labels, 1 to 1,024 items, and the ranges of each
pub record Ranges (l : Listing) : Type 0 where
  pub shape_count : Within 0 SHAPES (length l.shapes)
  pub shapes : Each (ShapeRange (length l.shapes)) l.shapes
  pub label_count : Within 1 LABELS (length l.labels)
  pub labels : Each (LabelRange (length l.shapes) (length l.labels)) l.labels
  pub item_count : Within 1 ITEMS (length l.items)
  pub items : Each (ItemRange (length l.labels)) l.items
