-- The tests of a row of premises are equations of the judgement: a stack is empty or equal to another, a register is listed with a kind and a level, each register of a list is listed, a shape has a field.
use Rattle.std.specs.Prelude.{ℕ, suc, ◌≡◌, refl, ◌↔◌, Bool, true, false, List, [], ◌∷◌, length, ltb, eqb}
use Rattle.std.proofs.Common.{arith, ap, eq-eqb, ltb-true, eqb-true}
use Rattle.choice.specs.Pick.{pick}
use Rattle.listing.specs.Listing.{Field, Register}
use Rattle.rules.specs.declared.contexts.Slot.{Slot}
use Rattle.rules.specs.Context.{INTEGER, typed, slot_at, both, exactly, meets, met_of, same_of, fields_of, field_of}
use Rattle.checker.specs.Judgement.{Lists, IsField}

-- both of two tests hold
pub both_hold : (a b : Bool) → (both a b ≡ true) ↔ ((a ≡ true) × (b ≡ true))
unfolding pick
both_hold true b = (λ e. (refl, e), λ h. h.1)
both_hold false b = (λ e. (e, cc), λ h. h.0)

-- a stack is empty
pub empty_stack : (s : List ℕ) → (eqb (length s) 0 ≡ true) ↔ (s ≡ [])
empty_stack [] = (λ e. refl, λ e. refl)
empty_stack (a ∷ s) = (λ e. let z : suc (length s) ≡ 0 = eqb-true (suc (length s)) 0 e in absurd (omega arith), λ e. eq-eqb (suc (length s)) 0 (ap length e))

-- two stacks are equal
pub same_stacks : (s t : List ℕ) → (same_of s t ≡ true) ↔ (s ≡ t)
unfolding same_of
same_stacks [] [] = (λ e. refl, λ e. refl)
same_stacks [] (b ∷ t) = (λ e. cc, λ e. cc)
same_stacks (a ∷ s) [] = (λ e. cc, λ e. cc)
same_stacks (a ∷ s) (b ∷ t) =
    let all = both_hold (eqb a b) (same_of s t) in
    let rest = same_stacks s t in
    (λ e i. eqb-true a b (all.0 e).0 i ∷ rest.0 (all.0 e).1 i, λ e. all.1 (eq-eqb a b cc, rest.1 cc))

-- a register is listed with exactly a kind and a level
pub exactly_is : (s : Slot) (kind level : ℕ) → (exactly s kind level ≡ true) ↔ (s ≡ typed kind level)
exactly_is s kind level =
    let same = both_hold (eqb s.kind kind) (eqb s.level level) in
    let all = both_hold s.listed (both (eqb s.kind kind) (eqb s.level level)) in (
      λ e.
          let h = all.0 e in
          let k = same.0 h.1 in
          λ i. record { listed = h.0 i; kind = eqb-true s.kind kind k.0 i; level = eqb-true s.level level k.1 i },
      λ e.
          all.1 (
            ap (λ (x : Slot). x.listed) e,
            same.1 (eq-eqb s.kind kind (ap (λ (x : Slot). x.kind) e), eq-eqb s.level level (ap (λ (x : Slot). x.level) e)),
          ),
    )

-- a register is listed; and is an integer
pub listed_is : (s : Slot) → s.listed ≡ true → s ≡ typed s.kind s.level
listed_is s e = λ i. record { listed = e i; kind = s.kind; level = s.level }

pub integer_is : (s : Slot) → s.listed ≡ true → eqb s.kind INTEGER ≡ true → s ≡ typed INTEGER s.level
integer_is s e z = λ i. record { listed = e i; kind = eqb-true s.kind INTEGER z i; level = s.level }

-- each register of a list is listed now
pub met_lists : (registers : List Slot) (rs : List Register) → (met_of registers rs ≡ true) ↔ Lists registers rs
unfolding met_of
met_lists registers [] = (λ e. tt, λ h. refl)
met_lists registers (r ∷ rs) =
    let all = both_hold (meets registers r) (met_of registers rs) in
    let first = exactly_is (slot_at registers r.index) r.kind r.level in
    let rest = met_lists registers rs in
    (λ e. (first.0 (all.0 e).0, rest.0 (all.0 e).1), λ h. all.1 (first.1 h.0, rest.1 h.1))

-- a kind has a field
pub field_is : (shapes : List (List Field)) (kind c : ℕ) → ltb INTEGER kind ≡ true → ltb c (length (fields_of shapes kind)) ≡ true
    → IsField shapes kind c (field_of shapes kind c).kind (field_of shapes kind c).level
field_is shapes kind c p h = record { pointer = ltb-true INTEGER kind p; has = ltb-true c (length (fields_of shapes kind)) h; kind_is = refl; level_is = refl }
