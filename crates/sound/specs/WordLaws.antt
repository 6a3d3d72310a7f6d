-- The block words of a run that stands well: each lies in the heap, no address has two, and what a store to one changes.
use Rattle.std.specs.Prelude.{ℕ, ◌<◌, ◌≡◌, length, get_or, set}
use Rattle.std.proofs.Math.Decide.{ℕ_discrete}
use Rattle.std.proofs.Common.{sym, subst, ◌∙◌, get_or-set_same, get_or-set_other}
use Rattle.rules.specs.Context.{Context}
use Rattle.start.specs.Theorems.{word_in_heap, word_is_one}
use Rattle.sound.specs.Items.{Spot}
use Rattle.sound.specs.Setting.{Setting, WordIn, Good}

module _ (S : Setting) (Γ : Context) (s : Spot) (g : Good S Γ s) where
  pub word_within : (a kind l : ℕ) → WordIn S a kind l → a < length s.heap
  word_within = word_in_heap S.shapes (length s.heap) S.rows g.rows

  pub one_word : (a b k k' l l' : ℕ) → WordIn S a k l → WordIn S b k' l' → b ≡ a → (k ≡ k') × (l ≡ l')
  one_word a b k k' l l' w w' e = word_is_one S.shapes (length s.heap) S.rows g.rows a k k' l l' w (subst (λ (c : ℕ). WordIn S c k' l') e w')

  -- what holds of the new word, and of each other as before, holds of each
  pub stored : (Q : ℕ → Type 0) (a kind l v b : ℕ) → WordIn S a kind l → (b ≡ a → Q v) → ((b ≡ a → ⊥) → Q (get_or s.heap b 0)) → Q (get_or (set s.heap a v) b 0)
  stored Q a kind l v b w here other =
      elim (ℕ_discrete b a) [
        | yes e ↦ rw (e, get_or-set_same s.heap a v 0 (word_within a kind l w)) (here e)
        | no d ↦ rw (get_or-set_other s.heap a b v 0 d) (other d)
      ]

-- one word stored by two runs: each word that was equal is equal, and so is the new one
pub both_stored : (S : Setting) (Γ : Context) (s₁ s₂ : Spot) → Good S Γ s₁ → Good S Γ s₂ → (a₁ a₂ kind l v₁ v₂ : ℕ) → WordIn S a₁ kind l → WordIn S a₂ kind l → a₁ ≡ a₂ → v₁ ≡ v₂
    → (b : ℕ) → get_or s₁.heap b 0 ≡ get_or s₂.heap b 0 → get_or (set s₁.heap a₁ v₁) b 0 ≡ get_or (set s₂.heap a₂ v₂) b 0
both_stored S Γ s₁ s₂ g₁ g₂ a₁ a₂ kind l v₁ v₂ w₁ w₂ a v b e =
    stored S Γ s₁ g₁ (λ (y : ℕ). y ≡ get_or (set s₂.heap a₂ v₂) b 0) a₁ kind l v₁ b w₁
    (λ z. stored S Γ s₂ g₂ (λ (y : ℕ). v₁ ≡ y) a₂ kind l v₂ b w₂ (λ z'. v) (λ d. absurd (d (z ∙ a))))
    (λ d. stored S Γ s₂ g₂ (λ (y : ℕ). get_or s₁.heap b 0 ≡ y) a₂ kind l v₂ b w₂ (λ z. absurd (d (z ∙ sym a))) (λ d'. e))
