-- The reading of an item: its number, and behind it the operands that the number asks for. `item_again`: it is made again from its row, so that no row is two items'. `item_size`: its number says how long the row is.
use Rattle.std.specs.Prelude.{ℕ, ◌≤◌, ◌<◌, ◌≡◌, List, [], ◌∷◌, ◌++◌, length, eqb}
use native.Mathlib.Omega.{arith}
use Rattle.std.proofs.Math.Decide.{ℕ_discrete}
use Rattle.std.proofs.Math.Path.{refl}
use Rattle.std.proofs.Common.{sym, ap, subst, ◌∙◌}
use Rattle.std.proofs.lemmas.List.{append_cancel_left}
use Rattle.choice.specs.Pick.{pick, is_less, not_less, not_equal, if_equal, if_less}
use Rattle.listing.specs.declared.grammar.Wanted.TheVariants.{ItemNumber, OperandLabel, BranchRegister, OperandFirst, OperandSecond, OperandThird}
use Rattle.listing.specs.Due.{Due}
use Rattle.listing.specs.Due.{Next, End}
use Rattle.listing.specs.declared.items.Item.{Item}
use Rattle.listing.specs.declared.items.Item.TheVariants.{Halt, Jmp, Bnz, Load, Store, Compute, ComputeImmediate, Cpush, Cjmp, Label}
use Rattle.listing.specs.Limits.{TOP_ITEM, TOP_PART, TOP_IMMEDIATE}
use Rattle.listing.specs.Listing.{single, item_numbers, Within, ItemRange}
use Rattle.listing.specs.Parts.{number_at, item_of, item_at, size_of}
use Rattle.listing.specs.Grammar.{next_of, items_from, operands_from}
use Rattle.listing.specs.Fold.{fold_of}
use Rattle.listing.specs.Sorts.{Sort, Found, within_read, below_read, nothing_read, in_turn}

equal_or_not : {X : Type 0} (a b : ℕ) → (a ≡ b → X) → ((a ≡ b → ⊥) → X) → X
equal_or_not a b p q = elim (ℕ_discrete a b) [ yes e ↦ p e | no e ↦ q e ]

-- behind the first three item numbers, and the first five
behind_three : {A : Type 0} (n : ℕ) (x₀ x₁ x₂ r x : A) → 3 ≤ n → r ≡ x → r ≡ pick (eqb n 0) x₀ (pick (eqb n 1) x₁ (pick (eqb n 2) x₂ x))
behind_three n x₀ x₁ x₂ r x h p = not_equal n 0 _ _ _ (omega arith) (not_equal n 1 _ _ _ (omega arith) (not_equal n 2 _ _ _ (omega arith) p))

operation : (n : ℕ) (x₀ x₁ x₂ x₃ x₄ i x : Item) → 5 ≤ n → i ≡ x → i ≡ pick (eqb n 0) x₀ (pick (eqb n 1) x₁ (pick (eqb n 2) x₂ (pick (eqb n 3) x₃ (pick (eqb n 4) x₄ x))))
operation n x₀ x₁ x₂ x₃ x₄ i x h p = behind_three n _ _ _ _ _ (omega arith) (not_equal n 3 _ _ _ (omega arith) (not_equal n 4 _ _ _ (omega arith) p))

-- an item is made again from its row
pub item_again : (labels : ℕ) (i : Item) (rest : List ℕ) → ItemRange labels i → i ≡ item_at (item_numbers i ++ rest) 0
unfolding item_numbers item_of pick
item_again labels Halt rest h = refl
item_again labels (Jmp l) rest h = refl
item_again labels (Bnz rs l) rest h = refl
item_again labels (Load rd rs c) rest h = refl
item_again labels (Store rd c rs) rest h = refl
item_again labels (Compute op rd rs rt) rest h = operation op _ _ _ _ _ _ _ (omega arith) (is_less op 10 _ _ _ (omega arith) refl)
item_again labels (ComputeImmediate op rd rs i) rest h = operation op _ _ _ _ _ _ _ (omega arith) (not_less op 10 _ _ _ h.0.0 (is_less op 15 _ _ _ (omega arith) refl))
item_again labels (Cpush l) rest h = refl
item_again labels (Cjmp l) rest h = refl
item_again labels (Label l) rest h = refl

-- and its row is as long as its number says; items 3 to 14 have three operands
four_numbers : (n : ℕ) → Within 3 14 n → 4 ≡ size_of n
unfolding size_of
four_numbers n h = behind_three n _ _ _ _ _ h.0 (is_less n 15 _ _ _ (omega arith) refl)

pub item_size : (labels : ℕ) (i : Item) (rest : List ℕ) → ItemRange labels i → length (item_numbers i) ≡ size_of (number_at (item_numbers i ++ rest) 0)
unfolding item_numbers size_of pick
item_size labels Halt rest h = refl
item_size labels (Jmp l) rest h = refl
item_size labels (Bnz rs l) rest h = refl
item_size labels (Load rd rs c) rest h = refl
item_size labels (Store rd c rs) rest h = refl
item_size labels (Compute op rd rs rt) rest h = four_numbers op (omega arith)
item_size labels (ComputeImmediate op rd rs i) rest h = four_numbers op (omega arith)
item_size labels (Cpush l) rest h = refl
item_size labels (Cjmp l) rest h = refl
item_size labels (Label l) rest h = refl

module _ (labels more : ℕ) where
  item_number_read : Sort (Next (ItemNumber labels more)) single (Within 0 TOP_ITEM) (operands_from labels more)
  unfolding next_of
  item_number_read = within_read (ItemNumber labels more) 0 TOP_ITEM (operands_from labels more) (λ n. refl)

  -- the operands: a label; a register and a label; two parts and a third number up to high
  target_read : Sort (Next (OperandLabel labels more)) single (λ l. l < labels) (λ l. items_from labels more)
  unfolding next_of
  target_read = below_read (OperandLabel labels more) labels (items_from labels more) (λ n. refl)

  branch_read : Sort {A = ℕ × ℕ} (Next (BranchRegister labels more)) (λ p. p.0 ∷ p.1 ∷ []) (λ p. Within 0 TOP_PART p.0 × (p.1 < labels)) (λ p. items_from labels more)
  unfolding next_of
  branch_read = in_turn (within_read (BranchRegister labels more) 0 TOP_PART (λ n. Next (OperandLabel labels more)) (λ n. refl)) (λ n. target_read)

  three_read : (high : ℕ) → Sort {A = ℕ × (ℕ × ℕ)} (Next (OperandFirst labels more high)) (λ p. p.0 ∷ p.1.0 ∷ p.1.1 ∷ [])
      (λ p. Within 0 TOP_PART p.0 × (Within 0 TOP_PART p.1.0 × Within 0 high p.1.1)) (λ p. items_from labels more)
  unfolding next_of
  three_read high =
      in_turn (within_read (OperandFirst labels more high) 0 TOP_PART (λ n. Next (OperandSecond labels more high)) (λ n. refl))
      (λ n. in_turn (within_read (OperandSecond labels more high) 0 TOP_PART (λ k. Next (OperandThird labels more high)) (λ k. refl))
      (λ k. within_read (OperandThird labels more high) 0 high (λ i. items_from labels more) (λ i. refl)))

  -- for items 3 to 9, and 10 to 14
  asks_parts : (n : ℕ) → Within 3 9 n → Next (OperandFirst labels more TOP_PART) ≡ operands_from labels more n
  unfolding operands_from
  asks_parts n h = behind_three n _ _ _ _ _ h.0 (is_less n 10 _ _ _ (omega arith) refl)

  asks_immediate : (n : ℕ) → Within 10 14 n → Next (OperandFirst labels more TOP_IMMEDIATE) ≡ operands_from labels more n
  unfolding operands_from
  asks_immediate n h = behind_three n _ _ _ _ _ (omega arith) (not_less n 10 _ _ _ h.0 (is_less n 15 _ _ _ (omega arith) refl))

  behind_number : (n : ℕ) (ns rest : List ℕ) (d : Due) → Within 0 TOP_ITEM n → d ≡ operands_from labels more n → fold_of d ns ≡ fold_of (items_from labels more) rest
      → fold_of (Next (ItemNumber labels more)) (n ∷ ns) ≡ fold_of (items_from labels more) rest
  behind_number n ns rest d h e p = item_number_read.taken n ns h ∙ (ap (λ (x : Due). fold_of x ns) (sym e) ∙ p)

  item_taken : (i : Item) (rest : List ℕ) → ItemRange labels i → fold_of (Next (ItemNumber labels more)) (item_numbers i ++ rest) ≡ fold_of (items_from labels more) rest
  unfolding item_numbers operands_from pick
  item_taken Halt rest h = behind_number 0 rest rest _ (omega arith) refl refl
  item_taken (Jmp l) rest h = behind_number 1 _ rest _ (omega arith) refl (target_read.taken l rest h)
  item_taken (Bnz rs l) rest h = behind_number 2 _ rest _ (omega arith) refl (branch_read.taken (rs, l) rest h)
  item_taken (Load rd rs c) rest h = behind_number 3 _ rest _ (omega arith) refl ((three_read TOP_PART).taken (rd, (rs, c)) rest (h.0, (h.1, h.2)))
  item_taken (Store rd c rs) rest h = behind_number 4 _ rest _ (omega arith) refl ((three_read TOP_PART).taken (rd, (c, rs)) rest (h.0, (h.1, h.2)))
  item_taken (Compute op rd rs rt) rest h =
      behind_number op _ rest _ (omega arith) (asks_parts op (omega arith)) ((three_read TOP_PART).taken (rd, (rs, rt)) rest (h.1, (h.2, h.3)))
  item_taken (ComputeImmediate op rd rs i) rest h =
      behind_number op _ rest _ (omega arith) (asks_immediate op h.0) ((three_read TOP_IMMEDIATE).taken (rd, (rs, i)) rest (h.1, (h.2, h.3)))
  item_taken (Cpush l) rest h = behind_number 15 _ rest _ (omega arith) refl (target_read.taken l rest h)
  item_taken (Cjmp l) rest h = behind_number 16 _ rest _ (omega arith) refl (target_read.taken l rest h)
  item_taken (Label l) rest h = behind_number 17 _ rest _ (omega arith) refl (target_read.taken l rest h)

-- an item behind its number n, by the operands that n asks for
module _ (labels more n : ℕ) (ns : List ℕ) where
  abbrev FoundAt : Due → Type 0
  FoundAt d = fold_of d ns ≡ End → Found item_numbers (ItemRange labels) (λ i. items_from labels more) (n ∷ ns)

  item_of_lem : {A : Type 0} {operands : A → List ℕ} {P : A → Type 0} {d : Due} (k : ℕ) (item : A → Item) → Sort d operands P (λ a. items_from labels more)
      → ((a : A) → k ∷ operands a ≡ item_numbers (item a)) → ((a : A) → P a → ItemRange labels (item a)) → n ≡ k → FoundAt d
  item_of_lem k item reading numbers range same e =
      let x = reading.found ns e in
      record {
        value = item x.value;
        rest = x.rest;
        in_range = range x.value x.in_range;
        read = (λ i. same i ∷ x.read i) ∙ ap (λ (l : List ℕ). l ++ x.rest) (numbers x.value);
        ended = x.ended;
      }

  label_found : Within 15 TOP_ITEM n → FoundAt (Next (OperandLabel labels more))
  unfolding item_numbers
  label_found h =
      equal_or_not n 15 (item_of_lem 15 Cpush (target_read labels more) (λ l. refl) (λ l r. r))
      (λ n15. equal_or_not n 16 (item_of_lem 16 Cjmp (target_read labels more) (λ l. refl) (λ l r. r))
      (λ n16. item_of_lem 17 Label (target_read labels more) (λ l. refl) (λ l r. r) (omega arith)))

  parts_found : Within 3 9 n → FoundAt (Next (OperandFirst labels more TOP_PART))
  unfolding item_numbers
  parts_found h =
      equal_or_not n 3 (item_of_lem 3 (λ p. Load p.0 p.1.0 p.1.1) (three_read labels more TOP_PART) (λ p. refl) (λ p r. (r.0, r.1.0, r.1.1)))
      (λ n3. equal_or_not n 4 (item_of_lem 4 (λ p. Store p.0 p.1.0 p.1.1) (three_read labels more TOP_PART) (λ p. refl) (λ p r. (r.0, r.1.0, r.1.1)))
      (λ n4. item_of_lem n (λ p. Compute n p.0 p.1.0 p.1.1) (three_read labels more TOP_PART) (λ p. refl) (λ p r. (omega arith, r.0, r.1.0, r.1.1)) refl))

  immediate_found : Within 10 14 n → FoundAt (Next (OperandFirst labels more TOP_IMMEDIATE))
  unfolding item_numbers
  immediate_found h = item_of_lem n (λ p. ComputeImmediate n p.0 p.1.0 p.1.1) (three_read labels more TOP_IMMEDIATE) (λ p. refl) (λ p r. (h, r.0, r.1.0, r.1.1)) refl

  operands_found : Within 0 TOP_ITEM n → FoundAt (operands_from labels more n)
  unfolding operands_from item_numbers
  operands_found h =
      if_equal FoundAt n 0 _ _ (item_of_lem 0 (λ u. Halt) (nothing_read (items_from labels more)) (λ u. refl) (λ u r. r))
      (λ n0. if_equal FoundAt n 1 _ _ (item_of_lem 1 Jmp (target_read labels more) (λ l. refl) (λ l r. r))
      (λ n1. if_equal FoundAt n 2 _ _ (item_of_lem 2 (λ p. Bnz p.0 p.1) (branch_read labels more) (λ p. refl) (λ p r. r))
      (λ n2. if_less FoundAt n 10 _ _ (λ n9. parts_found (omega arith))
      (λ n10. if_less FoundAt n 15 _ _ (λ n14. immediate_found (omega arith)) (λ n15. label_found (omega arith))))))

pub item_read : (labels more : ℕ) → Sort (Next (ItemNumber labels more)) item_numbers (ItemRange labels) (λ i. items_from labels more)
item_read labels more =
    record {
      taken = item_taken labels more;
      found = λ ns e.
          let x = (item_number_read labels more).found ns e in
          subst (Found item_numbers (ItemRange labels) (λ i. items_from labels more)) (sym x.read) (operands_found labels more x.value x.rest x.in_range x.ended);
      alone = λ i j r s h k same.
          let e : i ≡ j = item_again labels i r h ∙ (ap (λ (ns : List ℕ). item_at ns 0) same ∙ sym (item_again labels j s k)) in
          (e, append_cancel_left (item_numbers i) r s (same ∙ ap (λ (x : Item). item_numbers x ++ s) (sym e)));
    }
