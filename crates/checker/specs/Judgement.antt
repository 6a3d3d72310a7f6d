-- Document 000, figures 2 and 3, as 01 sets them out: when a listing is well typed. One constructor for each rule, in its name, over any order of levels: ⊑ is its test and ⊔ its join. Σ(L) is `target_of labels L`, and a context Γ ∥ Λ with its pc level is a `Context`.
use Rattle.std.specs.Prelude.{ℕ, ◌+◌, ◌<◌, ◌≡◌, Bool, true, List, [], ◌∷◌, length, set, eqb}
use Rattle.choice.specs.Pick.{pick}
use Rattle.listing.specs.declared.items.Item.{Item}
use Rattle.listing.specs.declared.items.Item.TheVariants.{Halt, Jmp, Bnz, Load, Store, Compute, ComputeImmediate, Cpush, Cjmp, Label}
use Rattle.listing.specs.Limits.{STACK}
use Rattle.listing.specs.Listing.{Field, Register, LabelContext, Listing, Each}
use Rattle.rules.specs.declared.contexts.Slot.{Slot}
use Rattle.rules.specs.Context.{INTEGER, typed, Context, context_of, slot_at, slot_of, entered, target_of, fields_of, field_of}

-- Γ' ⊆ Γ: each register that is listed there has its kind and level here
abbrev pub Lists : List Slot → List Register → Type 0
Lists registers = Each (λ (r : Register). slot_at registers r.index ≡ slot_of r)

-- what comes next is typed in a context; or a label is due, in whose own context it is typed (000's Ctx(P) ⊢ P)
pub data Now : Type 0 where
  due : Now
  inside : Context → Now

-- τ[c] = ω to the level l, for the shape τ that a kind points to
pub record IsField (shapes : List (List Field)) (kind c ω l : ℕ) : Type 0 where
  pub pointer : 0 < kind
  pub has : c < length (fields_of shapes kind)
  pub kind_is : (field_of shapes kind c).kind ≡ ω
  pub level_is : (field_of shapes kind c).level ≡ l

-- how often a label is placed
unfoldable pub placings : ℕ → List Item → ℕ
placings l [] = 0
placings l (Label k ∷ P) = pick (eqb k l) 1 0 + placings l P
placings l (Halt ∷ P) = placings l P
placings l (Jmp k ∷ P) = placings l P
placings l (Bnz r k ∷ P) = placings l P
placings l (Load rd rs c ∷ P) = placings l P
placings l (Store rd c rs ∷ P) = placings l P
placings l (Compute op rd rs rt ∷ P) = placings l P
placings l (ComputeImmediate op rd rs i ∷ P) = placings l P
placings l (Cpush k ∷ P) = placings l P
placings l (Cjmp k ∷ P) = placings l P

module _ (◌⊑◌ : ℕ → ℕ → Bool) (◌⊔◌ : ℕ → ℕ → ℕ) where
  infix 5 ◌⊑◌
  infix 6 ◌⊔◌
  -- (Γ, pc : l ∥ Λ) ≤ (Γ', pc : l' ∥ Λ), rule ST_RegBank
  pub record st_reg_bank (l : ℕ) (Γ : Context) (t : LabelContext) : Type 0 where
    pub stack : Γ.stack ≡ t.stack
    pub registers : Lists Γ.registers t.registers
    pub level : l ⊑ t.level ≡ true

  module _ (shapes : List (List Field)) (labels : List LabelContext) where
    pub data Typed : Now → List Item → Type 0 where
      t_eof : Typed due []
      t_due : (l : ℕ) (P : List Item) → Typed (inside (entered (target_of labels l))) P → Typed due (Label l ∷ P)
      t_label : (Γ : Context) (l : ℕ) (P : List Item) → st_reg_bank Γ.level Γ (target_of labels l) → Typed (inside (entered (target_of labels l))) P → Typed (inside Γ) (Label l ∷ P)
      t_halt : (Γ : Context) (P : List Item) → Γ.stack ≡ [] → Typed due P → Typed (inside Γ) (Halt ∷ P)
      t_jmp : (Γ : Context) (l : ℕ) (P : List Item) → st_reg_bank Γ.level Γ (target_of labels l) → Typed due P → Typed (inside Γ) (Jmp l ∷ P)
      t_cond_brnch : (Γ : Context) (r l' l : ℕ) (P : List Item) → slot_at Γ.registers r ≡ typed INTEGER l' → st_reg_bank (Γ.level ⊔ l') Γ (target_of labels l)
          → Typed (inside (context_of (Γ.level ⊔ l') Γ.stack Γ.registers)) P → Typed (inside Γ) (Bnz r l ∷ P)
      t_arith : (Γ : Context) (op rd rs rt ω ld ls lt : ℕ) (P : List Item) → 0 < rd
          → slot_at Γ.registers rd ≡ typed ω ld → slot_at Γ.registers rs ≡ typed INTEGER ls → slot_at Γ.registers rt ≡ typed INTEGER lt
          → (Γ.level ⊔ ls) ⊔ lt ⊑ ld ≡ true
          → Typed (inside (context_of Γ.level Γ.stack (set Γ.registers rd (typed INTEGER ld)))) P → Typed (inside Γ) (Compute op rd rs rt ∷ P)
      t_arithi : (Γ : Context) (op rd rs i ω ld ls : ℕ) (P : List Item) → 0 < rd
          → slot_at Γ.registers rd ≡ typed ω ld → slot_at Γ.registers rs ≡ typed INTEGER ls
          → Γ.level ⊔ ls ⊑ ld ≡ true
          → Typed (inside (context_of Γ.level Γ.stack (set Γ.registers rd (typed INTEGER ld)))) P → Typed (inside Γ) (ComputeImmediate op rd rs i ∷ P)
      t_load : (Γ : Context) (rd rs c τ ω ld ls ωc lc : ℕ) (P : List Item) → 0 < rd
          → slot_at Γ.registers rd ≡ typed ω ld → slot_at Γ.registers rs ≡ typed τ ls → IsField shapes τ c ωc lc
          → Γ.level ⊔ ls ⊑ lc ≡ true → lc ⊑ ld ≡ true
          → Typed (inside (context_of Γ.level Γ.stack (set Γ.registers rd (typed ωc ld)))) P → Typed (inside Γ) (Load rd rs c ∷ P)
      t_store : (Γ : Context) (rd c rs τ ld ω ls : ℕ) (P : List Item)
          → slot_at Γ.registers rd ≡ typed τ ld → IsField shapes τ c ω ls → slot_at Γ.registers rs ≡ typed ω ls
          → Γ.level ⊔ ld ⊑ ls ≡ true
          → Typed (inside Γ) P → Typed (inside Γ) (Store rd c rs ∷ P)
      t_cpush : (Γ : Context) (l : ℕ) (P : List Item) → length Γ.stack < STACK → Γ.level ⊑ (target_of labels l).level ≡ true
          → Typed (inside (context_of Γ.level (l ∷ Γ.stack) Γ.registers)) P → Typed (inside Γ) (Cpush l ∷ P)
      t_cjmp : (Γ : Context) (l : ℕ) (P : List Item) → Γ.stack ≡ l ∷ (target_of labels l).stack → Lists Γ.registers (target_of labels l).registers
          → Typed due P → Typed (inside Γ) (Cjmp l ∷ P)

  -- a listing is well typed: its first item is a label with an empty stack, its items are typed from there, no block is open at its end, and each label is placed exactly once
  pub record WellTyped (l : Listing) : Type 0 where
    pub first : ℕ
    pub rest : List Item
    pub begins : l.items ≡ Label first ∷ rest
    pub first_stack : (target_of l.labels first).stack ≡ []
    pub typed : Typed l.shapes l.labels due l.items
    pub once : (k : ℕ) → k < length l.labels → placings k l.items ≡ 1
