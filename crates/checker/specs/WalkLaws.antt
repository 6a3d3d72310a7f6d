-- Laws for the code of the walk: one for each way through it. `faults` holds those for an answer at its place.
use Prim.Native.Nat.{ℕ, zero, suc, ◌+◌, ◌≤◌}
use native.Mathlib.Omega.{arith}
use Rattle.std.specs.Prelude.{◌≡◌, Bool, not, true, false, length, get_or, replicate}
use Rattle.std.proofs.Math.Path.{refl, sym, ap}
use Rattle.std.specs.List.{list_all}
use Rattle.std.proofs.Common.{◌∙◌, drop-cons}
use mathlib.Core.List.{List, [], ◌∷◌}
use Rattle.std.proofs.Math.ListN.{take, drop}
use Rattle.choice.specs.Pick.{pick, is_true, is_false, is_equal, not_equal, if_equal}
use Rattle.refusals.specs.declared.Refusal.{Refusal}
use Rattle.refusals.specs.declared.Fault.{Fault}
use Rattle.refusals.specs.Refusals.{number_of, Verdict, verdict_of}
use Rattle.refusals.specs.RefusalLaws.{some_number}
use Rattle.levels.specs.Sets.{below_of, join_of}
use Rattle.listing.specs.declared.items.Item.{Item}
use Rattle.listing.specs.Limits.{LABELS, ITEMS}
use Rattle.listing.specs.Parts.{number_at, count_at, item_at, behind_item, label_at, behind_label, labels_place, items_place, shapes_in, labels_in, items_in, listing_in}
use Rattle.listing.specs.PartLaws.{parts_length}
use Rattle.listing.specs.PlaceLaws.{count_held}
use Rattle.rules.specs.Rules.{first_failing}
use Rattle.rules.specs.HeldLaws.{and_pick}
use Rattle.checker.specs.Walk.{accepted, free_of, all_from, or_else, premises_of, end_row, walk_from, walk_of}
use Rattle.checker.specs.Refusal.{State, start, behind}
use Rattle.checker.specs.States.{walk_on}

-- the placed labels
module _ (placed : List Bool) (l : ℕ) where
  pub is_placed : (b : Bool) → b ≡ get_or placed l false → not b ≡ free_of placed l
  unfolding pick
  is_placed true e = is_true _ _ _ _ (sym e) refl
  is_placed false e = is_false _ _ _ _ (sym e) refl

-- the first n of those from k on
pub placed_each : (placed : List Bool) (k n : ℕ) → k + n ≤ length placed → list_all (λ p. p) (take n (drop k placed)) ≡ all_from placed k n
unfolding all_from
placed_each placed k zero h = refl
placed_each placed k (suc n) h =
    let next : suc k ≡ k + 1 = omega arith in
    let cells : drop k placed ≡ get_or placed k false ∷ drop (k + 1) placed = drop-cons placed k false (omega arith) ∙ ap (λ (m : ℕ). get_or placed k false ∷ drop m placed) next in
    ap (λ (xs : List Bool). list_all (λ p. p) (take (suc n) xs)) cells
    ∙ and_pick _ _
    ∙ ap (λ (r : Bool). pick (get_or placed k false) r false) (placed_each placed (k + 1) n (omega arith))

-- an answer about what stands at a place, by the number of its first refusal there
module _ (k at : ℕ) where
  pub no_fault : 0 ≡ k → accepted ≡ or_else k at accepted
  unfolding or_else
  no_fault z = is_equal k 0 _ _ _ (sym z) refl

  pub fault : (f : Fault) (r : Refusal) → f.refusal ≡ r → f.place ≡ at → number_of r ≡ k → verdict_of (number_of f.refusal) f.place ≡ or_else k at accepted
  unfolding or_else
  fault f r p q e = not_equal k 0 _ _ _ (λ z. some_number r (sym (e ∙ z))) (λ i. verdict_of ((ap number_of p ∙ e) i) (q i))

  passed : accepted ≡ or_else k at accepted → k ≡ 0
  unfolding or_else
  passed = if_equal (λ (v : Verdict). accepted ≡ v → k ≡ 0) k 0 accepted (verdict_of k at) (λ e p. e) (λ d p. sym (ap (λ (v : Verdict). v.number) p))

  refused : (f : Fault) (rest : Verdict) → verdict_of (number_of f.refusal) f.place ≡ or_else k at accepted → verdict_of (number_of f.refusal) f.place ≡ or_else k at rest
  unfolding or_else
  refused f rest =
      if_equal (λ (v : Verdict). verdict_of (number_of f.refusal) f.place ≡ v → verdict_of (number_of f.refusal) f.place ≡ or_else k at rest) k 0 accepted (verdict_of k at)
      (λ e p. absurd (some_number f.refusal (sym (ap (λ (v : Verdict). v.number) p))))
      (λ d p. p ∙ not_equal k 0 _ _ _ d refl)

pub ruleset faults = (refl, no_fault, fault)

-- the loop over the items: the whole verdict is that of the walk from each item on
module _ (whole : Verdict) (ns : List ℕ) (s : State) (place : ℕ) (left : List Item) (inv : whole ≡ walk_on ns s place left) where
  module _ (item : Item) (left' : List Item) (more : left ≡ item ∷ left') where
    abbrev number_due : ℕ
    number_due = first_failing (premises_of below_of join_of (shapes_in ns) (labels_in ns) s.block s.context s.placed item)

    one_item : whole ≡ or_else number_due place (walk_on ns (behind below_of join_of (shapes_in ns) (labels_in ns) s item) (place + 1) left')
    unfolding walk_from
    one_item = inv ∙ ap (walk_on ns s place) more

    -- nothing refuses the item: the walk goes on behind it
    pub turn : (s' : State) (place' : ℕ) → accepted ≡ or_else number_due place accepted → s' ≡ behind below_of join_of (shapes_in ns) (labels_in ns) s item → place' ≡ place + 1
        → whole ≡ walk_on ns s' place' left'
    unfolding or_else
    turn s' place' z p q = one_item ∙ sym (is_equal _ 0 _ _ _ (passed number_due place z) (λ j. walk_on ns (p j) (q j) left'))

    -- something does
    pub stop : (f : Fault) → verdict_of (number_of f.refusal) f.place ≡ or_else number_due place accepted → verdict_of (number_of f.refusal) f.place ≡ whole
    stop f e = refused number_due place f _ e ∙ sym one_item

  pub at_end : left ≡ [] → (v : Verdict) (n : ℕ) → n ≡ length (labels_in ns) → v ≡ or_else (first_failing (end_row n s.block s.placed)) place accepted → v ≡ whole
  unfolding walk_from
  at_end none v n e p =
      p
      ∙ ap (λ (x : ℕ). or_else (first_failing (end_row x s.block s.placed)) place accepted) e
      ∙ sym (inv ∙ ap (walk_on ns s place) none)

-- where the loop begins
pub walk_begins : (ns : List ℕ) (s : State) (place : ℕ) (left : List Item) → s ≡ start → place ≡ 0 → left ≡ items_in ns → walk_of below_of join_of (listing_in ns) ≡ walk_on ns s place left
unfolding walk_of start
walk_begins ns s place left p q r = sym (λ i. walk_on ns (p i) (q i) (r i))

-- a place is before the last item, where an item is left
pub few_items : (ns : List ℕ) → length (items_in ns) ≤ ITEMS
unfolding items_in
few_items ns =
    omega (
      arith,
      parts_length (item_at ns) (behind_item ns) (items_place ns + 1) (count_at ITEMS ns (items_place ns)),
      count_held ITEMS (number_at ns (items_place ns)) (count_at ITEMS ns (items_place ns)) refl,
    )

pub labels_counted : (ns : List ℕ) (place n : ℕ) → place ≡ labels_place ns → n ≡ count_at LABELS ns place → n ≡ length (labels_in ns)
unfolding labels_in
labels_counted ns place n p e = e ∙ ap (count_at LABELS ns) p ∙ sym (parts_length (label_at ns) (behind_label ns) (labels_place ns + 1) (count_at LABELS ns (labels_place ns)))
