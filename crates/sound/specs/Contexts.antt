-- The context before each item of a listing, as the walk has it: none where a label is due.
use Rattle.std.specs.Prelude.{ℕ, zero, suc, Bool, List, [], ◌∷◌}
use Rattle.listing.specs.declared.items.Item.{Item}
use Rattle.listing.specs.declared.items.Item.TheVariants.{Halt, Jmp, Bnz, Load, Store, Compute, ComputeImmediate, Cpush, Cjmp, Label}
use Rattle.listing.specs.Listing.{Field, LabelContext}
use Rattle.rules.specs.Context.{entered, target_of}
use Rattle.rules.specs.Rules.{after_of}
use Rattle.checker.specs.Judgement.{Now, due, inside}

module _ (◌⊑◌ : ℕ → ℕ → Bool) (◌⊔◌ : ℕ → ℕ → ℕ) (shapes : List (List Field)) (labels : List LabelContext) where
  -- behind an item that does not close its block, and is no label
  unfoldable pub goes_on : Now → Item → Now
  goes_on due i = due
  goes_on (inside Γ) i = inside (after_of ◌⊑◌ ◌⊔◌ shapes labels Γ i)

  -- behind an item: a label opens its own context; after jmp, cjmp and halt the block is closed
  unfoldable pub now_after : Now → Item → Now
  now_after n Halt = due
  now_after n (Jmp l) = due
  now_after n (Bnz rs l) = goes_on n (Bnz rs l)
  now_after n (Load rd rs c) = goes_on n (Load rd rs c)
  now_after n (Store rd c rs) = goes_on n (Store rd c rs)
  now_after n (Compute op rd rs rt) = goes_on n (Compute op rd rs rt)
  now_after n (ComputeImmediate op rd rs i) = goes_on n (ComputeImmediate op rd rs i)
  now_after n (Cpush l) = goes_on n (Cpush l)
  now_after n (Cjmp l) = due
  now_after n (Label l) = inside (entered (target_of labels l))

  -- before the p-th item from here
  unfoldable pub now_from : Now → List Item → ℕ → Now
  now_from n items zero = n
  now_from n [] (suc p) = due
  now_from n (i ∷ items) (suc p) = now_from (now_after n i) items p

  -- before the item at place p; at the start a label is due
  abbrev pub now_at : List Item → ℕ → Now
  now_at items p = now_from due items p
