-- A push that is not refused has room, for the proof of the code.
use Rattle.std.specs.Prelude.{ℕ, ◌<◌, ◌≡◌, List, length, ltb}
use Rattle.std.proofs.Common.{arith, sym, ◌∙◌, ltb-true}
use Rattle.std.proofs.Common.{inl, inr}
use Rattle.std.proofs.Math.Path.{ap}
use Rattle.choice.specs.Pick.{either}
use Rattle.levels.specs.Sets.{below_of, join_of}
use Rattle.listing.specs.declared.items.Item.{Item}
use Rattle.listing.specs.declared.items.Item.TheVariants.{Cpush}
use Rattle.listing.specs.Limits.{STACK}
use Rattle.listing.specs.Listing.{Field, LabelContext}
use Rattle.rules.specs.Context.{Context}
use Rattle.rules.specs.Rules.{first_failing, row_of}

pub push_room : (shapes : List (List Field)) (labels : List LabelContext) (Γ : Context) (item : Item) (l : ℕ) → item ≡ Cpush l
    → first_failing (row_of below_of join_of shapes labels Γ item) ≡ 0 → length Γ.stack < STACK
unfolding row_of first_failing
push_room shapes labels Γ item l e p =
    elim (either (ltb (length Γ.stack) STACK) _ _ 0 (ap (λ (i : Item). first_failing (row_of below_of join_of shapes labels Γ i)) (sym e) ∙ p)) [
      | inl h ↦ ltb-true _ _ h.0
      | inr h ↦ absurd (omega arith)
    ]
