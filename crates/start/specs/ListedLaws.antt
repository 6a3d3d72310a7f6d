-- In a listing within 01's ranges, the registers that the first label lists have indices that registers have.
use Rattle.std.specs.Prelude.{ℕ, zero, suc, ◌<◌, ◌≤◌, List, [], ◌∷◌, length}
use Rattle.std.proofs.Common.{arith}
use Rattle.listing.specs.declared.items.Item.{Item}
use Rattle.listing.specs.declared.items.Item.TheVariants.{Halt, Jmp, Bnz, Load, Store, Compute, ComputeImmediate, Cpush, Cjmp, Label}
use Rattle.listing.specs.Limits.{TOP_PART}
use Rattle.listing.specs.Listing.{Register, LabelContext, Listing, EachAfter, Each, RegisterRange, LabelRange, Ranges}
use Rattle.start.specs.Start.{listed_by, listed_at, listed_first}
use Rattle.start.specs.Refusal.{register_in}

-- each index of a list of registers is that of a register
abbrev pub Indexed : List Register → Type 0
Indexed listed = (n : ℕ) → n < length listed → (register_in listed n).index ≤ TOP_PART

none_indexed : Indexed []
none_indexed n h = absurd (omega arith)

range_indexed : (shapes last : ℕ) (listed : List Register) → EachAfter (RegisterRange shapes) (λ (r : Register). r.index) last listed → Indexed listed
range_indexed shapes last [] e n h = absurd (omega arith)
range_indexed shapes last (r ∷ listed) e zero h = e.0.index.1
range_indexed shapes last (r ∷ listed) e (suc n) h = range_indexed shapes r.index listed e.1 n (omega arith)

label_indexed : (shapes count : ℕ) (labels : List LabelContext) → Each (LabelRange shapes count) labels → (l : ℕ) → Indexed (listed_by labels l)
label_indexed shapes count [] e l = none_indexed
label_indexed shapes count (t ∷ labels) e zero = range_indexed shapes 0 t.registers e.0.registers
label_indexed shapes count (t ∷ labels) e (suc l) = label_indexed shapes count labels e.1 l

item_indexed : (labels : List LabelContext) → ((l : ℕ) → Indexed (listed_by labels l)) → (i : Item) → Indexed (listed_at labels i)
unfolding listed_at
item_indexed labels h Halt = none_indexed
item_indexed labels h (Jmp l) = none_indexed
item_indexed labels h (Bnz rs l) = none_indexed
item_indexed labels h (Load rd rs c) = none_indexed
item_indexed labels h (Store rd c rs) = none_indexed
item_indexed labels h (Compute op rd rs rt) = none_indexed
item_indexed labels h (ComputeImmediate op rd rs i) = none_indexed
item_indexed labels h (Cpush l) = none_indexed
item_indexed labels h (Cjmp l) = none_indexed
item_indexed labels h (Label l) = h l

items_indexed : (labels : List LabelContext) → ((l : ℕ) → Indexed (listed_by labels l)) → (items : List Item) → Indexed (listed_first labels items)
unfolding listed_first
items_indexed labels h [] = none_indexed
items_indexed labels h (i ∷ items) = item_indexed labels h i

pub listing_indexed : (l : Listing) → Ranges l → Indexed (listed_first l.labels l.items)
listing_indexed l r = items_indexed l.labels (label_indexed _ _ l.labels r.labels) l.items
