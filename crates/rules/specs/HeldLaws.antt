-- Laws for the code that goes through a label's stack and registers, number by number: one for each way through a loop, or what a chain comes to. `belows` and `pushings` hold some.
use Prim.Native.Nat.{ℕ, zero, suc, ◌+◌, ◌*◌, ◌-◌, ◌<◌, ◌≤◌}
use native.Mathlib.Omega.{arith}
use Rattle.std.specs.Prelude.{◌≡◌, Bool, true, length, eqb, ◌&&◌}
use Rattle.std.specs.List.{list_all, range_with_len, enumerate_from}
use Rattle.std.proofs.Math.Path.{refl, sym, ap}
use Rattle.std.proofs.Common.{◌∙◌, drop_of_length-le, drop-cons}
use Rattle.std.proofs.Math.Bool.{false}
use mathlib.Core.List.{List, [], ◌∷◌}
use Rattle.std.proofs.Math.ListN.{get_or, set, take, drop}
use Rattle.std.proofs.Math.Seq.{take-length}
use Rattle.choice.specs.Pick.{pick, is_equal, both as each}
use Rattle.listing.specs.Limits.{STACK, REGISTERS}
use Rattle.listing.specs.Listing.{Register}
use Rattle.listing.specs.Parts.{parts_from, number_at, count_of, count_at, register_at, registers_place, registers_at, label_at, stack_at}
use Rattle.listing.specs.PartLaws.{parts_more, parts_none, parts_length}
use Rattle.listing.specs.PlaceLaws.{count_held}
use Rattle.rules.specs.declared.contexts.Slot.{Slot}
use Rattle.rules.specs.Context.{slot_of, meets, met_of, same_of, no_registers, with_listed}

-- a number that is held to a limit
pub count_within : (limit n : ℕ) → count_of limit n ≤ limit
count_within limit n = count_held limit n (count_of limit n) refl

-- how many labels a label's stack has
pub stack_length : (ns : List ℕ) (place : ℕ) → length (label_at ns place).stack ≡ count_at STACK ns (place + 1)
stack_length ns place = parts_length (number_at ns) (λ p. p + 1) (place + 2) (count_at STACK ns (place + 1))

-- of `count` parts, those from the i-th on, which stands at `at`: the i-th, and those from the next on
part_turn : {A : Type 0} (part : ℕ → A) (next : ℕ → ℕ) (at after i count : ℕ) → i < count → next at ≡ after
    → parts_from part next at (count - i) ≡ part at ∷ parts_from part next after (count - (i + 1))
part_turn part next at after i count h e =
    let fewer : count - i - 1 ≡ count - (i + 1) = omega arith in
    parts_more part next at (count - i) (omega arith) ∙ (λ j. part at ∷ parts_from part next (e j) (fewer j))

part_end : {A : Type 0} (part : ℕ → A) (next : ℕ → ℕ) (at i count : ℕ) → count ≤ i → parts_from part next at (count - i) ≡ []
part_end part next at i count h = parts_none part next at (count - i) (omega arith)

-- the test of each, and of the rest
pub and_pick : (b r : Bool) → (b && r) ≡ pick b r false
unfolding pick
and_pick true r = refl
and_pick false r = refl

-- a row of labels against a label's stack, label by label: `answer` is that for all
abbrev labels_from : List ℕ → ℕ → ℕ → List ℕ
labels_from ns = parts_from (number_at ns) (λ p. p + 1)

same_lengths : (s t : List ℕ) → (length s ≡ length t → ⊥) → false ≡ same_of s t
unfolding same_of
same_lengths [] [] h = absurd (h refl)
same_lengths [] (b ∷ t) h = refl
same_lengths (a ∷ s) [] h = refl
same_lengths (a ∷ s) (b ∷ t) h = each (λ (r : Bool). false ≡ r) (eqb a b) _ _ (same_lengths s t (λ e. h (ap suc e))) refl

-- all labels, each equal to the number in its place
pub same_each : (labels ns : List ℕ) (first a : ℕ) → list_all (λ p. eqb p.1 (number_at ns (first + p.0))) (enumerate_from a labels) ≡ same_of labels (labels_from ns (first + a) (length labels))
unfolding same_of parts_from
same_each [] ns first a = refl
same_each (l ∷ labels) ns first a =
    let next : first + (a + 1) ≡ first + a + 1 = omega arith in
    and_pick _ _ ∙ ap (λ (r : Bool). pick (eqb l (number_at ns (first + a))) r false)
    (same_each labels ns first (a + 1) ∙ ap (λ (p : ℕ). same_of labels (labels_from ns p (length labels))) next)

pub same_stack : (labels ns : List ℕ) (place n : ℕ) → n ≡ length (label_at ns place).stack → length labels ≡ n → same_of labels (labels_from ns (place + 2 + 0) (length labels)) ≡ same_of labels (stack_at ns place)
same_stack labels ns place n e h =
    let at : place + 2 + 0 ≡ place + 2 = omega arith in
    λ i. same_of labels (labels_from ns (at i) ((h ∙ e ∙ stack_length ns place) i))

pub same_short : (labels ns : List ℕ) (place n : ℕ) → n ≡ length (label_at ns place).stack → (length labels ≡ n → ⊥) → false ≡ same_of labels (stack_at ns place)
same_short labels ns place n e h = same_lengths labels (stack_at ns place) (λ d. h (d ∙ sym e))

-- a label on top, and a label's stack below it
pub below_top : (s labels below : List ℕ) (l : ℕ) (r : Bool) → labels ≡ s → 1 ≤ length labels → get_or labels 0 0 ≡ l → r ≡ same_of (take (length labels - 1) (drop 1 labels)) below → r ≡ same_of s (l ∷ below)
unfolding same_of
below_top s [] below l r e h t p = absurd (omega arith)
below_top s (a ∷ labels) below l r e h t p =
    let rest : length (a ∷ labels) - 1 ≡ length labels = omega arith in
    is_equal a l r _ false t (p ∙ (λ i. same_of (((λ j. take (rest j) labels) ∙ take-length labels) i) below)) ∙ ap (λ (x : List ℕ). same_of x (l ∷ below)) e

pub no_top : (s labels below : List ℕ) (l : ℕ) → labels ≡ s → length labels < 1 → false ≡ same_of s (l ∷ below)
unfolding same_of
no_top s [] below l e h = ap (λ (x : List ℕ). same_of x (l ∷ below)) e
no_top s (a ∷ labels) below l e h = absurd (omega arith)

pub ruleset belows = (refl, below_top, no_top)

pub label_depth : (ns : List ℕ) (place k v : ℕ) → k ≡ count_of STACK v → v ≡ number_at ns (place + 1) → k ≡ length (label_at ns place).stack
label_depth ns place k v p q = p ∙ ap (count_of STACK) q ∙ sym (stack_length ns place)

-- a label's stack, pushed from its last label up: those from the i-th on are pushed, and the one before it comes next
module _ (pushed ns : List ℕ) (place i : ℕ) (inv : pushed ≡ labels_from ns (place + 2 + i) (count_at STACK ns (place + 1) - i)) (within : i ≤ count_at STACK ns (place + 1)) (more : 0 < i) where
  pub push_room : length pushed < STACK
  push_room = omega (arith, ap length inv, count_within STACK (number_at ns (place + 1)), parts_length (number_at ns) (λ p. p + 1) (place + 2 + i) (count_at STACK ns (place + 1) - i))

  pub push_turn : (after : List ℕ) (l : ℕ) → l ≡ number_at ns (place + 2 + (i - 1)) → after ≡ l ∷ pushed → after ≡ labels_from ns (place + 2 + (i - 1)) (count_at STACK ns (place + 1) - (i - 1))
  push_turn after l p e =
      let back : i ≡ i - 1 + 1 = omega arith in
      e
      ∙ (λ j. p j ∷ (inv ∙ (λ k. labels_from ns (place + 2 + i) (count_at STACK ns (place + 1) - back k))) j)
      ∙ sym (part_turn (number_at ns) (λ p. p + 1) (place + 2 + (i - 1)) (place + 2 + i) (i - 1) (count_at STACK ns (place + 1)) (omega arith) (omega arith))

pub push_within : (ns : List ℕ) (place n : ℕ) → n ≡ length (label_at ns place).stack → n ≤ count_at STACK ns (place + 1)
push_within ns place n h = omega (arith, h, stack_length ns place)

pub push_none : (pushed ns : List ℕ) (place n : ℕ) → pushed ≡ [] → n ≡ length (label_at ns place).stack → pushed ≡ labels_from ns (place + 2 + n) (count_at STACK ns (place + 1) - n)
push_none pushed ns place n e h =
    e ∙ sym (part_end (number_at ns) (λ p. p + 1) (place + 2 + n) n (count_at STACK ns (place + 1)) (omega (arith, h, stack_length ns place)))

pub ruleset pushings = (refl, push_none, push_within, push_room, push_turn)

-- a label's registers: whether all are met, and the registers with them put in; the i-th is next
abbrev registers_from : List ℕ → ℕ → ℕ → List Register
registers_from ns = parts_from (register_at ns) (λ p. p + 3)

module _ (registers : List Slot) (ns : List ℕ) (first i count : ℕ) where
  next_register : i < count → registers_from ns (first + 3 * i) (count - i) ≡ register_at ns (first + 3 * i) ∷ registers_from ns (first + 3 * (i + 1)) (count - (i + 1))
  next_register h = part_turn (register_at ns) (λ p. p + 3) (first + 3 * i) (first + 3 * (i + 1)) i count h (omega arith)

  no_register : count ≤ i → registers_from ns (first + 3 * i) (count - i) ≡ []
  no_register h = part_end (register_at ns) (λ p. p + 3) (first + 3 * i) i count h

  pub listed_turn : (answer after : List Slot) (s : Slot) (r : ℕ) → after ≡ set registers r s → answer ≡ with_listed registers (registers_from ns (first + 3 * i) (count - i))
      → r ≡ number_at ns (first + 3 * i) → s ≡ slot_of (register_at ns (first + 3 * i)) → i < count → answer ≡ with_listed after (registers_from ns (first + 3 * (i + 1)) (count - (i + 1)))
  unfolding with_listed
  listed_turn answer after s r e inv q p h =
      inv
      ∙ ap (with_listed registers) (next_register h)
      ∙ ap (λ (x : List Slot). with_listed x (registers_from ns (first + 3 * (i + 1)) (count - (i + 1)))) (sym (e ∙ (λ j. set registers (q j) (p j))))

  pub listed_all : (answer : List Slot) → answer ≡ with_listed registers (registers_from ns (first + 3 * i) (count - i)) → count ≤ i → registers ≡ answer
  unfolding with_listed
  listed_all answer inv h = sym (inv ∙ ap (with_listed registers) (no_register h))

-- all registers, each met by its number
pub met_each : (registers : List Slot) (ns : List ℕ) (first a count : ℕ)
    → list_all (λ i. meets registers (register_at ns (first + 3 * i))) (range_with_len a count) ≡ met_of registers (registers_from ns (first + 3 * a) count)
unfolding met_of parts_from
met_each registers ns first a zero = refl
met_each registers ns first a (suc count) =
    let next : first + 3 * (a + 1) ≡ first + 3 * a + 3 = omega arith in
    and_pick _ _ ∙ ap (λ (r : Bool). pick (meets registers (register_at ns (first + 3 * a))) r false)
    (met_each registers ns first (a + 1) count ∙ ap (λ (p : ℕ). met_of registers (registers_from ns p count)) next)

pub met_whole : (registers : List Slot) (ns : List ℕ) (place p n : ℕ) → p ≡ registers_place ns place → n ≡ count_at REGISTERS ns p
    → met_of registers (registers_from ns (p + 1 + 3 * 0) n) ≡ met_of registers (label_at ns place).registers
met_whole registers ns place p n h e =
    let at : p + 1 + 3 * 0 ≡ p + 1 = omega arith in
    (λ i. met_of registers (registers_from ns (at i) (e i))) ∙ (λ i. met_of registers (registers_at ns (h i)))

pub listed_none : (ns : List ℕ) (place p : ℕ) (registers : List Slot) → registers ≡ no_registers → p ≡ registers_place ns place
    → with_listed no_registers (label_at ns place).registers ≡ with_listed registers (registers_from ns (p + 1 + 3 * 0) (count_at REGISTERS ns p - 0))
listed_none ns place p registers e h =
    let at : p + 1 ≡ p + 1 + 3 * 0 = omega arith in
    let all : count_at REGISTERS ns p ≡ count_at REGISTERS ns p - 0 = omega arith in
    (λ i. with_listed (sym e i) (registers_at ns (sym h i))) ∙ (λ i. with_listed registers (registers_from ns (at i) (all i)))
