-- The rows of a block table as the code has them, in pairs of words; and what stands in a list at an index, which is how loops go through it.
use Rattle.choice.specs.Pick.{pick}
use Rattle.std.specs.Prelude.{Bool, true, false, ◌||◌, ℕ, zero, suc, ◌+◌, ◌*◌, ◌/◌, ◌<◌, ◌≡◌, List, [], ◌∷◌, length, get_or, take, drop, map}
use Rattle.std.proofs.Common.{refl, arith, sym, ap, ◌∙◌, get_or-drop, drop-drop, drop-cons, add-one}
use Rattle.std.proofs.lemmas.List.{get_or-take, length-map, get_or-map}
use Rattle.std.specs.List.{list_any}
use Rattle.std.specs.Simd.{first_chunks}
use Rattle.listing.specs.Parts.{parts_from, field_at, register_at}
use Rattle.listing.specs.PartLaws.{parts_length, part_stands, behind_equal}
use Rattle.start.specs.Start.{Row, row_at, rows_of, any_of, word_of, words_from}
use Rattle.start.specs.PartLaws.{fields_in, registers_in}
use Rattle.start.specs.ClearLaws.{words_length, word_at, no_word}

abbrev pub row_of : ℕ → ℕ → Row
row_of base s = record { base = base; shape = s }

-- the rows that pairs of words are
unfoldable pub rows_in : List (List ℕ) → List Row
rows_in pairs = map (λ (p : List ℕ). row_at p 0) pairs

-- the pairs of a table's words are its rows
pairs_from : (blocks : List ℕ) (n at : ℕ) → rows_in (first_chunks 2 n (drop at blocks)) ≡ parts_from (row_at blocks) (λ p. p + 2) at n
unfolding rows_in parts_from
pairs_from blocks zero at = refl
pairs_from blocks (suc n) at =
    let base : get_or (take 2 (drop at blocks)) 0 0 ≡ get_or blocks at 0 = get_or-take 2 (drop at blocks) 0 0 (omega arith) ∙ get_or-drop at blocks 0 0 ∙ ap (λ (i : ℕ). get_or blocks i 0) (omega arith) in
    let shape : get_or (take 2 (drop at blocks)) 1 0 ≡ get_or blocks (at + 1) 0 = get_or-take 2 (drop at blocks) 1 0 (omega arith) ∙ get_or-drop at blocks 1 0 in
    let rest : rows_in (first_chunks 2 n (drop 2 (drop at blocks))) ≡ parts_from (row_at blocks) (λ p. p + 2) (at + 2) n =
    ap (λ (l : List ℕ). rows_in (first_chunks 2 n l)) (drop-drop 2 at blocks) ∙ pairs_from blocks n (at + 2) in
    λ i. row_of (base i) (shape i) ∷ rest i

pub pairs_are_rows : (blocks : List ℕ) (pairs : List (List ℕ)) → pairs ≡ first_chunks 2 (length blocks / 2) blocks → rows_in pairs ≡ rows_of blocks
unfolding rows_of
pairs_are_rows blocks pairs e = ap rows_in e ∙ pairs_from blocks (length blocks / 2) 0

any_step : (b x y : Bool) → x ≡ y → (b || x) ≡ pick b true y
unfolding pick
any_step true x y e = refl
any_step false x y e = e

-- a row that meets a test, among pairs
pub any_row : (t : Row → Bool) (pairs : List (List ℕ)) → list_any (λ (p : List ℕ). t (row_at p 0)) pairs ≡ any_of t (rows_in pairs)
unfolding rows_in any_of pick
any_row t [] = refl
any_row t (p ∷ pairs) = any_step (t (row_at p 0)) _ _ (any_row t pairs)

-- an element stands in a list at an index
pub record Stands {A : Type 0} (l : List A) (i : ℕ) (x : A) : Type 0 where
  pub split : drop i l ≡ x ∷ drop (i + 1) l

stands_at : {A : Type 0} (l : List A) (i : ℕ) (d x : A) → i < length l → get_or l i d ≡ x → Stands l i x
stands_at {A} l i d x h e = record { split = rw add-one (drop-cons l i d h ∙ ap (λ (y : A). y ∷ drop (suc i) l) e) }

pub rows_counted : (pairs : List (List ℕ)) → length (rows_in pairs) ≡ length pairs
unfolding rows_in
rows_counted pairs = length-map pairs _

pub row_stands : (pairs : List (List ℕ)) (i base s : ℕ) → i < length pairs → base ≡ get_or (get_or pairs i []) 0 0 → s ≡ get_or (get_or pairs i []) 1 0 → Stands (rows_in pairs) i (row_of base s)
unfolding rows_in
row_stands pairs i base s h p q =
    stands_at (rows_in pairs) i (row_at [] 0) _ (omega (arith, rows_counted pairs)) (get_or-map (λ (r : List ℕ). row_at r 0) pairs i [] (row_at [] 0) h ∙ (λ j. row_of (sym p j) (sym q j)))

pub pair_stands : (pairs : List (List ℕ)) (i : ℕ) → i < length pairs → Stands (rows_in pairs) i (row_at (get_or pairs i []) 0)
pair_stands pairs i h = row_stands pairs i _ _ h refl refl

-- the words of a block, and the listed registers, one of so many
module _ (ns : List ℕ) (at count i : ℕ) (h : i < count) where
  pub word_stands : (base : ℕ) → Stands (words_from base (fields_in ns at count)) i (word_of (base + i) (field_at ns (at + 2 * i)))
  word_stands base =
      let many : length (fields_in ns at count) ≡ count = parts_length _ _ _ _ in
      let field = part_stands (field_at ns) (λ p. p + 2) _ count at i h ∙ ap (field_at ns) (behind_equal 2 at i) in
      stands_at _ i no_word _ (omega (arith, many, words_length base (fields_in ns at count)))
      (word_at base (fields_in ns at count) i no_word (omega (arith, many)) ∙ ap (word_of (base + i)) field)

  pub register_stands : Stands (registers_in ns at count) i (register_at ns (at + 3 * i))
  register_stands =
      let many : length (registers_in ns at count) ≡ count = parts_length _ _ _ _ in
      stands_at _ i (record { index = 0; kind = 0; level = 0 }) _ (omega (arith, many))
      (part_stands (register_at ns) (λ p. p + 3) _ count at i h ∙ ap (register_at ns) (behind_equal 3 at i))

-- and how many there are
pub words_counted : (ns : List ℕ) (at count base : ℕ) → length (words_from base (fields_in ns at count)) ≡ count
words_counted ns at count base = words_length base (fields_in ns at count) ∙ parts_length (field_at ns) (λ p. p + 2) at count

pub registers_counted : (ns : List ℕ) (at count : ℕ) → length (registers_in ns at count) ≡ count
registers_counted ns at count = parts_length (register_at ns) (λ p. p + 3) at count

pub ruleset stands = (refl, pairs_are_rows, rows_counted, pair_stands, word_stands, register_stands, words_counted, registers_counted)
