-- Laws for the eraser's code: one for each way through it. Two passes go over the items; each has its whole result as what is left of it from each item on. `by_kept`, `passes` and `calls` hold the laws for a search; the laws of a turn take the invariant first, from which a search has the rest.
use Prim.Native.Nat.{ℕ, suc, ◌+◌, ◌≤◌, ◌<◌}
use Rattle.std.proofs.Common.{zero-add, add-one, ◌∙◌}
use native.Mathlib.Omega.{arith}
use Rattle.std.specs.Prelude.{◌≡◌, refl, Bool, true, false, Option, Some, None}
use Rattle.std.proofs.Math.Path.{sym, ap}
use mathlib.Core.List.{List, [], ◌∷◌, ◌++◌, map}
use Rattle.std.proofs.Math.ListN.{length, set, drop}
use Rattle.std.proofs.lemmas.List.{length-map}
use Rattle.std.proofs.lemmas.List.Edits.{sets}
use Rattle.std.proofs.Math.Seq.{sets-eq}
use Rattle.choice.specs.Ends.{set_past}
use Rattle.choice.specs.Pick.{pick, each_way, is_true, is_false, is_less, not_less}
use Rattle.listing.specs.declared.items.Item.{Item}
use Rattle.listing.specs.declared.items.Item.TheVariants.{Halt, Jmp, Bnz, Load, Store, Compute, ComputeImmediate, Cpush, Cjmp, Label}
use Rattle.listing.specs.Limits.{LABELS, ITEMS}
use Rattle.listing.specs.Parts.{parts_from, count_at, item_at, behind_item, items_place, items_in}
use Rattle.eraser.specs.Erase.{kept_of, kept_in, needed_of, count_behind, pass_from, label_of, entered, addresses_from, no_addresses, addresses_of, word_for, code_of, erased_by, erase_of, erase_items}

-- the word of an item that is kept
unfoldable pub kept_word : List ℕ → Item → Option ℕ
kept_word addresses i = pick (kept_of i) (Some (word_for addresses i)) None

-- a kept item's word goes to the place of its count; the words of all items
unfoldable pub put_of : List ℕ → Item → ℕ → List ℕ → List ℕ
put_of addresses i count code = pick (kept_of i) (set code count (word_for addresses i)) code

abbrev pub written_from : List ℕ → List Item → ℕ → List ℕ → List ℕ
written_from addresses items count code = pass_from (put_of addresses) items count code

no_label : (i : Item) → ((l : ℕ) → i ≡ Label l → ⊥) → label_of i ≡ LABELS
no_label Halt n = refl
no_label (Jmp l) n = refl
no_label (Bnz rs l) n = refl
no_label (Load rd rs c) n = refl
no_label (Store rd c rs) n = refl
no_label (Compute op rd rs rt) n = refl
no_label (ComputeImmediate op rd rs i) n = refl
no_label (Cpush l) n = refl
no_label (Cjmp l) n = refl
no_label (Label l) n = absurd (n l refl)

-- the label that an item places is entered, where the table has an entry for it
module _ (i : Item) (count : ℕ) (addresses : List ℕ) where
  module _ (l : ℕ) (e : i ≡ Label l) where
    pub enters : set addresses l count ≡ entered i count addresses
    unfolding entered
    enters = ap (λ (k : Item). set addresses (label_of k) count) (sym e)

    pub enters_not : length addresses ≤ l → addresses ≡ entered i count addresses
    enters_not h = set_past addresses l count h ∙ enters

  pub enters_none : ((l : ℕ) → i ≡ Label l → ⊥) → length addresses ≤ LABELS → addresses ≡ entered i count addresses
  unfolding entered
  enters_none n h = set_past addresses LABELS count h ∙ ap (λ (k : ℕ). set addresses k count) (sym (no_label i n))

-- an item that is kept, and one that is not: k is the answer of `kept`
module _ (i : Item) (k : Bool) (e : k ≡ kept_of i) (count : ℕ) where
  module _ (h : k ≡ true) where
    is_kept : {A : Type 0} (x y : A) → x ≡ pick (kept_of i) x y
    is_kept x y = is_true (kept_of i) x x y (sym e ∙ h) refl

    pub counts : count + 1 ≡ count_behind i count
    unfolding count_behind
    counts = is_kept (count + 1) count

  module _ (h : k ≡ false) where
    is_dropped : {A : Type 0} (x y : A) → y ≡ pick (kept_of i) x y
    is_dropped x y = is_false (kept_of i) y x y (sym e ∙ h) refl

    pub counts_not : count ≡ count_behind i count
    unfolding count_behind
    counts_not = is_dropped (count + 1) count

pub ruleset by_kept = (counts, counts_not)

-- an item's word, where it has one: there is room for it where there is room behind the item
module _ (addresses : List ℕ) (i : Item) (count : ℕ) where
  word_kept : (w : ℕ) → Some w ≡ kept_word addresses i → (kept_of i ≡ true) × (w ≡ word_for addresses i)
  unfolding kept_word
  word_kept w e = each_way (λ (o : Option ℕ). Some w ≡ o → (kept_of i ≡ true) × (w ≡ word_for addresses i)) (kept_of i) _ _ (λ k s. (k, cc)) (λ k s. cc) e

  no_word : None ≡ kept_word addresses i → kept_of i ≡ false
  unfolding kept_word
  no_word e = each_way (λ (o : Option ℕ). None ≡ o → kept_of i ≡ false) (kept_of i) _ _ (λ k s. cc) (λ k s. k) e

  module _ (w : ℕ) (e : Some w ≡ kept_word addresses i) where
    pub word_counts : count + 1 ≡ count_behind i count
    word_counts = counts i true (sym (word_kept w e).0) count refl

    pub has_room : (room : ℕ) → count_behind i count ≤ room → count < room
    has_room room h = omega (arith, word_counts)

    pub puts : (code : List ℕ) → set code count w ≡ put_of addresses i count code
    unfolding put_of
    puts code = let k = word_kept w e in is_true (kept_of i) _ _ code k.0 (ap (set code count) k.1)

  module _ (e : None ≡ kept_word addresses i) where
    pub none_counts : count ≡ count_behind i count
    none_counts = counts_not i false (sym (no_word e)) count refl

    pub puts_not : (code : List ℕ) → code ≡ put_of addresses i count code
    unfolding put_of
    puts_not code = is_false (kept_of i) code _ code (no_word e) refl

pub ruleset putting = (word_counts, has_room, puts, none_counts, puts_not)

-- a pass over items: its words and its count are what the items that are left make of them
abbrev pub Passing : (Item → ℕ → List ℕ → List ℕ) → List Item → List ℕ → List Item → ℕ → List ℕ → Type 0
Passing change items words₀ left count words =
    (pass_from change items 0 words₀ ≡ pass_from change left count words)
    × (needed_of items ≡ count + needed_of left)
    × (length words ≡ length words₀)

-- the count of kept items, and the words that are written, one item on: by whether it is kept
needed_way : (t : Bool) (i : Item) (items : List Item) (count : ℕ) → count + length (pick t (i ∷ items) items) ≡ pick t (count + 1) count + length items
unfolding pick
needed_way true i items count = omega arith
needed_way false i items count = refl

pub needed_more : (i : Item) (items : List Item) (count : ℕ) → count + needed_of (i ∷ items) ≡ count_behind i count + needed_of items
unfolding needed_of kept_in count_behind
needed_more i items count = needed_way (kept_of i) i (kept_in items) count

sets_way : (t : Bool) (word : Item → ℕ) (i : Item) (items : List Item) (code : List ℕ) (count : ℕ)
    → sets (pick t (set code count (word i)) code) (pick t (count + 1) count) (map word items) ≡ sets code count (map word (pick t (i ∷ items) items))
unfolding pick
sets_way true word i items code count = rw add-one
sets_way false word i items code count = refl

written_is_code : (addresses : List ℕ) (items : List Item) (count : ℕ) (code : List ℕ) → written_from addresses items count code ≡ sets code count (code_of addresses items)
unfolding pass_from put_of code_of kept_in count_behind
written_is_code addresses [] count code = refl
written_is_code addresses (i ∷ items) count code =
    written_is_code addresses items (count_behind i count) (put_of addresses i count code) ∙ sets_way (kept_of i) (word_for addresses) i (kept_in items) code count

-- a turn of a pass in the code's terms, for the count and for the words; and where it ends
module _ (count : ℕ) (left : List Item) where
  module _ (i : Item) (left' : List Item) (e : left ≡ i ∷ left') where
    pub needed_turn : (whole count' : ℕ) → whole ≡ count + needed_of left → count' ≡ count_behind i count → whole ≡ count' + needed_of left'
    needed_turn whole count' inv q = rw q (inv ∙ ap (λ (l : List Item). count + needed_of l) e ∙ needed_more i left' count)

    pub turn_fits : (whole room room₀ : ℕ) → whole ≡ count + needed_of left → room ≡ room₀ → whole ≤ room₀ → count_behind i count ≤ room
    turn_fits whole room room₀ inv r h = omega (arith, needed_turn whole (count_behind i count) inv refl)

    pub words_turn : (change : Item → ℕ → List ℕ → List ℕ) (whole words words' : List ℕ) (count' : ℕ) → whole ≡ pass_from change left count words
        → words' ≡ change i count words → count' ≡ count_behind i count → whole ≡ pass_from change left' count' words'
    unfolding pass_from
    words_turn change whole words words' count' inv s q = rw (q, s) (inv ∙ ap (λ (l : List Item). pass_from change l count words) e)

  module _ (e : left ≡ []) where
    pub needed_ends : (whole : ℕ) → whole ≡ count + needed_of left → count ≡ whole
    unfolding needed_of kept_in
    needed_ends whole inv = sym (inv ∙ ap (λ (l : List Item). count + needed_of l) e ∙ omega arith)

    pub words_end : (change : Item → ℕ → List ℕ → List ℕ) (whole words : List ℕ) → whole ≡ pass_from change left count words → words ≡ whole
    unfolding pass_from
    words_end change whole words inv = sym (inv ∙ ap (λ (l : List Item). pass_from change l count words) e)

-- where a pass begins
pub pass_begins : (change : Item → ℕ → List ℕ → List ℕ) (items left : List Item) (words : List ℕ) → left ≡ items → Passing change items words left 0 words
pass_begins change items left words e = (ap (λ (l : List Item). pass_from change l 0 words) (sym e), ap needed_of (sym e) ∙ sym (zero-add _), refl)

-- the items that are left: so many from a place on; the next one and the rest, or none, or all
abbrev pub items_from : List ℕ → ℕ → ℕ → List Item
items_from ns at left = parts_from (item_at ns) (behind_item ns) at left

module _ (ns : List ℕ) (at left : ℕ) where
  pub left_more : (left' : ℕ) → left ≡ suc left' → (i : Item) → i ≡ item_at ns at → (next : ℕ) → next ≡ behind_item ns at → items_from ns at left ≡ i ∷ items_from ns next left'
  unfolding parts_from
  left_more left' one i e next p = ap (items_from ns at) one ∙ sym (λ j. e j ∷ items_from ns (p j) left')

  pub left_none : left ≤ 0 → items_from ns at left ≡ []
  unfolding parts_from
  left_none h = let none : left ≡ 0 = omega arith in ap (items_from ns at) none

pub left_all : (ns : List ℕ) (place left n : ℕ) → place ≡ items_place ns → n ≡ count_at ITEMS ns place → left ≡ n → items_from ns (place + 1) left ≡ items_in ns
unfolding items_in
left_all ns place left n e c l = rw (← e) (ap (items_from ns (place + 1)) (l ∙ c))

-- the code has a word for each kept item
pub code_length : (addresses : List ℕ) (items : List Item) → length (code_of addresses items) ≡ needed_of items
unfolding code_of needed_of
code_length addresses items = length-map (kept_in items) (word_for addresses)

-- the call: it refuses what does not fit, else the words stand in front
module _ (ns code : List ℕ) (count : ℕ) (e : count ≡ needed_of (items_in ns)) where
  pub call_refuses : length code < count → erased_by count code ≡ erase_of ns code
  unfolding erase_items
  call_refuses h = is_less (length code) (needed_of (items_in ns)) _ _ _ (rw e at h) (ap (λ (n : ℕ). erased_by n code) e)

  pub call_erases : count ≤ length code → (table addresses code' : List ℕ) → table ≡ no_addresses → addresses ≡ addresses_from (items_in ns) 0 table
      → code' ≡ written_from addresses (items_in ns) 0 code → erased_by count code' ≡ erase_of ns code
  unfolding erase_items addresses_of
  call_erases h table addresses code' t a p =
      let items : List Item = items_in ns in
      let words : List ℕ = code_of (addresses_of items) items in
      let many : length words ≡ needed_of items = code_length (addresses_of items) items in
      let fits : needed_of items ≤ length code = rw e at h in
      let same : addresses ≡ addresses_of items = a ∙ ap (addresses_from items 0) t in
      let stands : code' ≡ words ++ drop (needed_of items) code =
      p ∙ ap (λ (l : List ℕ). written_from l items 0 code) same ∙ written_is_code (addresses_of items) items 0 code ∙ sets-eq words code 0 (omega arith) ∙ ap (λ (n : ℕ). words ++ drop n code) (zero-add _ ∙ many) in
      not_less (length code) (needed_of items) _ _ _ fits (λ i. erased_by (e i) (stands i))

pub ruleset calls = (call_refuses, call_erases)
