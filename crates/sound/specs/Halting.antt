-- The context in which a run halts: the one before the item whose word stands at the pc.
use Rattle.std.specs.Prelude.{ℕ, suc, ◌<◌, ◌≡◌, Bool, List, [], ◌∷◌, length, get_or, take, eqb}
use Rattle.choice.specs.Pick.{pick}
use Rattle.listing.specs.declared.items.Item.{Item}
use Rattle.listing.specs.declared.items.Item.TheVariants.{Halt}
use Rattle.listing.specs.Listing.{Listing}
use Rattle.rules.specs.Context.{Context, both}
use Rattle.checker.specs.Judgement.{Now, inside}
use Rattle.eraser.specs.Erase.{kept_of, count_behind, needed_of}
use Rattle.sound.specs.Contexts.{now_at}

-- the place of the kept item whose address is the pc, where so many items were kept before
unfoldable pub place_from : List Item → ℕ → ℕ → ℕ
place_from [] count pc = 0
place_from (i ∷ items) count pc = pick (both (kept_of i) (eqb count pc)) 0 (suc (place_from items (count_behind i count) pc))

abbrev pub place_of : List Item → ℕ → ℕ
place_of items pc = place_from items 0 pc

abbrev pub halt_context : (ℕ → ℕ → Bool) → (ℕ → ℕ → ℕ) → Listing → ℕ → Now
halt_context ◌⊑◌ ◌⊔◌ l pc = now_at ◌⊑◌ ◌⊔◌ l.shapes l.labels l.items (place_of l.items pc)

-- a halt item whose address, the count of kept items before it, is the pc; and that halt_context is the context there
pub record HaltsAt (◌⊑◌ : ℕ → ℕ → Bool) (◌⊔◌ : ℕ → ℕ → ℕ) (l : Listing) (pc : ℕ) : Type 0 where
  pub place : ℕ
  pub stands : place < length l.items
  pub item : get_or l.items place Halt ≡ Halt
  pub address : needed_of (take place l.items) ≡ pc
  pub context : Context
  pub before : now_at ◌⊑◌ ◌⊔◌ l.shapes l.labels l.items place ≡ inside context
  pub is : halt_context ◌⊑◌ ◌⊔◌ l pc ≡ inside context
