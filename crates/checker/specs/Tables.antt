-- Tables of places: where each shape and each label of a listing begins. Past those that there are, a table holds the end of the numbers, where the part that is read has nothing in it.
use Prim.Native.Nat.{ℕ, zero, suc, ◌+◌, ◌-◌, ◌*◌, ◌<◌, ◌≤◌}
use native.Mathlib.Omega.{arith}
use Rattle.std.specs.Prelude.{◌≡◌, List, [], ◌∷◌, length, set, replicate}
use Rattle.std.proofs.Math.Path.{refl, sym, ap}
use Rattle.std.proofs.Common.{◌∙◌}
use Rattle.std.proofs.Math.ListN.{get_or, length-set, get_or-eq_default}
use Rattle.std.proofs.lemmas.List.{length-replicate}
use Rattle.std.proofs.Math.Seq.{get_or-set_same, get_or-set_other}
use Rattle.choice.specs.Pick.{not_less, if_less}
use Rattle.listing.specs.Limits.{SHAPES, FIELDS, LABELS, STACK, REGISTERS, TOP_LEVEL}
use Rattle.listing.specs.Listing.{Field}
use Rattle.listing.specs.Parts.{parts_from, behind, number_at, count_of, count_at, field_at, shape_at, behind_shape, register_at, registers_place, label_at, behind_label, labels_place, shapes_in, labels_in}
use Rattle.listing.specs.PartLaws.{parts_none, parts_length, part_stands, no_part, behind_equal}
use Rattle.rules.specs.Context.{nowhere, no_field}
use Rattle.rules.specs.HeldLaws.{count_within}

-- a table with the places of n parts put in from k on
unfoldable pub tabled_from : (ℕ → ℕ) → ℕ → ℕ → ℕ → List ℕ → List ℕ
tabled_from next at k zero table = table
tabled_from next at k (suc n) table = tabled_from next (next at) (k + 1) n (set table k at)

abbrev pub table_of : ℕ → ℕ → (ℕ → ℕ) → ℕ → ℕ → List ℕ
table_of limit end next at n = tabled_from next at 0 n (replicate limit end)

unfoldable pub shape_table : List ℕ → List ℕ
shape_table ns = table_of SHAPES (length ns) (behind_shape ns) 2 (count_at SHAPES ns 1)

unfoldable pub label_table : List ℕ → List ℕ
label_table ns = table_of LABELS (length ns) (behind_label ns) (labels_place ns + 1) (count_at LABELS ns (labels_place ns))

module _ (next : ℕ → ℕ) (d : ℕ) where
  -- what stands before k stays
  before_stays : (n at k j : ℕ) (table : List ℕ) → j < k → get_or (tabled_from next at k n table) j d ≡ get_or table j d
  unfolding tabled_from
  before_stays zero at k j table h = refl
  before_stays (suc n) at k j table h =
      before_stays n (next at) (k + 1) j (set table k at) (omega arith) ∙ get_or-set_other table k j at d (λ e. omega arith)

  -- the j-th part's place stands at k + j, and behind all parts the table stays
  place_stands : (n at k j : ℕ) (table : List ℕ) → k + n ≤ length table → j < n → get_or (tabled_from next at k n table) (k + j) d ≡ behind next at j
  unfolding tabled_from behind
  place_stands zero at k j table h l = absurd (omega arith)
  place_stands (suc n) at k zero table h l =
      let here : k + 0 ≡ k = omega arith in
      ap (λ (i : ℕ). get_or (tabled_from next (next at) (k + 1) n (set table k at)) i d) here
      ∙ before_stays n (next at) (k + 1) k (set table k at) (omega arith)
      ∙ get_or-set_same table k at d (omega arith)
  place_stands (suc n) at k (suc j) table h l =
      let there : k + suc j ≡ k + 1 + j = omega arith in
      ap (λ (i : ℕ). get_or (tabled_from next (next at) (k + 1) n (set table k at)) i d) there
      ∙ place_stands n (next at) (k + 1) j (set table k at) (omega (arith, length-set table k at)) (omega arith)

  behind_stays : (n at k j : ℕ) (table : List ℕ) → k + n ≤ j → get_or (tabled_from next at k n table) j d ≡ get_or table j d
  unfolding tabled_from
  behind_stays zero at k j table h = refl
  behind_stays (suc n) at k j table h =
      behind_stays n (next at) (k + 1) j (set table k at) (omega arith) ∙ get_or-set_other table k j at d (λ e. omega arith)

same_everywhere : (m j a : ℕ) → get_or (replicate m a) j a ≡ a
same_everywhere zero j a = refl
same_everywhere (suc m) zero a = refl
same_everywhere (suc m) (suc j) a = same_everywhere m j a

-- the part at the place that a table has for j is the j-th, where the part at its end is what stands for none
module _ {A : Type 0} (part : ℕ → A) (next : ℕ → ℕ) (d : A) (limit end n at j : ℕ) (few : n ≤ limit) (none : part end ≡ d) where
  abbrev Reads : ℕ → Type 0
  Reads x = part (get_or (table_of limit end next at n) j end) ≡ get_or (parts_from part next at n) j d

  table_reads : part (get_or (table_of limit end next at n) j end) ≡ get_or (parts_from part next at n) j d
  table_reads =
      if_less Reads j n 0 0
      (λ h.
      let first : 0 + j ≡ j = omega arith in
      ap part (ap (λ (i : ℕ). get_or (table_of limit end next at n) i end) (sym first) ∙ place_stands next end n at 0 j (replicate limit end) (omega (arith, length-replicate limit end)) h)
      ∙ sym (part_stands part next d n at j h))
      (λ h. ap part (behind_stays next end n at 0 j (replicate limit end) (omega arith) ∙ same_everywhere limit j end) ∙ none ∙ sym (no_part part next d n at j h))

-- past the end of the numbers stands a label that lists nothing, and a shape of no field
past : (ns : List ℕ) (i : ℕ) → number_at ns (length ns + i) ≡ 0
past ns i = get_or-eq_default ns 0 {n = length ns + i} (omega arith)

none_counted : (ns : List ℕ) (limit i : ℕ) → count_at limit ns (length ns + i) ≡ 0
unfolding count_of
none_counted ns limit i = ap (count_of limit) (past ns i) ∙ sym (not_less limit 0 _ _ _ (omega arith) refl)

no_shape : (ns : List ℕ) → shape_at ns (length ns) ≡ []
no_shape ns =
    let here : length ns + 0 ≡ length ns = omega arith in
    ap (parts_from (field_at ns) (λ p. p + 2) (length ns + 1)) (ap (count_at FIELDS ns) (sym here) ∙ none_counted ns FIELDS 0) ∙ parts_none (field_at ns) (λ p. p + 2) (length ns + 1) 0 (omega arith)

no_label : (ns : List ℕ) → label_at ns (length ns) ≡ nowhere
no_label ns =
    let here : length ns + 0 ≡ length ns = omega arith in
    let stack : count_at STACK ns (length ns + 1) ≡ 0 = none_counted ns STACK 1 in
    let place : length ns + 2 + count_at STACK ns (length ns + 1) ≡ length ns + 2 = omega (arith, stack) in
    let registers : count_at REGISTERS ns (length ns + 2 + count_at STACK ns (length ns + 1)) ≡ 0 = ap (count_at REGISTERS ns) place ∙ none_counted ns REGISTERS 2 in
    λ i.
    record {
      level = (ap (number_at ns) (sym here) ∙ past ns 0) i;
      stack = (ap (parts_from (number_at ns) (λ p. p + 1) (length ns + 2)) stack ∙ parts_none (number_at ns) (λ p. p + 1) (length ns + 2) 0 (omega arith)) i;
      registers = (ap (parts_from (register_at ns) (λ p. p + 3) (registers_place ns (length ns) + 1)) registers
          ∙ parts_none (register_at ns) (λ p. p + 3) (registers_place ns (length ns) + 1) 0 (omega arith)) i;
    }

pub label_stands : (ns : List ℕ) (l : ℕ) → label_at ns (get_or (label_table ns) l (length ns)) ≡ get_or (labels_in ns) l nowhere
unfolding label_table labels_in
label_stands ns l =
    table_reads (label_at ns) (behind_label ns) nowhere LABELS (length ns) (count_at LABELS ns (labels_place ns)) (labels_place ns + 1) l (count_within LABELS _) (no_label ns)

pub shape_stands : (ns : List ℕ) (k : ℕ) → shape_at ns (get_or (shape_table ns) k (length ns)) ≡ get_or (shapes_in ns) k []
unfolding shape_table shapes_in
shape_stands ns k = table_reads (shape_at ns) (behind_shape ns) [] SHAPES (length ns) (count_at SHAPES ns 1) 2 k (count_within SHAPES _) (no_shape ns)

-- the turns of the loop that fills a table
module _ (whole table : List ℕ) (next : ℕ → ℕ) (at k n : ℕ) (inv : whole ≡ tabled_from next at k (n - k) table) where
  pub table_turn : (after : List ℕ) (behind : ℕ) → k < n → after ≡ set table k at → behind ≡ next at → whole ≡ tabled_from next behind (k + 1) (n - (k + 1)) after
  unfolding tabled_from
  table_turn after behind h p q =
      let more : n - k ≡ suc (n - (k + 1)) = omega arith in
      inv ∙ ap (λ (m : ℕ). tabled_from next at k m table) more ∙ (λ i. tabled_from next (sym q i) (k + 1) (n - (k + 1)) (sym p i))

  pub table_end : n ≤ k → table ≡ whole
  unfolding tabled_from
  table_end h = let none : n - k ≡ 0 = omega arith in sym (inv ∙ ap (λ (m : ℕ). tabled_from next at k m table) none)

pub ruleset tablings = (refl, table_turn, table_end)

-- how many fields a shape has
pub count_is : (ns : List ℕ) (place n : ℕ) → n ≡ count_at FIELDS ns place → n ≡ length (shape_at ns place)
count_is ns place n counted = counted ∙ sym (parts_length (field_at ns) (λ p. p + 2) (place + 1) (count_at FIELDS ns place))

-- a field of a shape, which stands at `at`
module _ (ns : List ℕ) (place c : ℕ) where
  field_is : c < length (shape_at ns place) → field_at ns (place + 1 + 2 * c) ≡ get_or (shape_at ns place) c no_field
  field_is h =
      sym (part_stands (field_at ns) (λ p. p + 2) no_field (count_at FIELDS ns place) (place + 1) c (omega (arith, h, count_is ns place _ refl)) ∙ ap (field_at ns) (behind_equal 2 (place + 1) c))

  pub kind_is : (at k v : ℕ) → c < length (shape_at ns place) → at ≡ place + 1 + 2 * c → v ≡ number_at ns at → k ≡ count_of SHAPES v → k ≡ (get_or (shape_at ns place) c no_field).kind
  kind_is at k v h e p q = q ∙ ap (count_of SHAPES) (p ∙ ap (number_at ns) e) ∙ ap (λ (f : Field). f.kind) (field_is h)

  pub level_is : (at k v : ℕ) → c < length (shape_at ns place) → at ≡ place + 1 + 2 * c → v ≡ number_at ns (at + 1) → k ≡ count_of TOP_LEVEL v → k ≡ (get_or (shape_at ns place) c no_field).level
  level_is at k v h e p q = q ∙ ap (count_of TOP_LEVEL) (p ∙ ap (λ (a : ℕ). number_at ns (a + 1)) e) ∙ ap (λ (f : Field). f.level) (field_is h)

  no_field_lem : length (shape_at ns place) ≤ c → no_field ≡ get_or (shape_at ns place) c no_field
  no_field_lem h = sym (get_or-eq_default (shape_at ns place) no_field {n = c} (omega (arith, h)))

  pub no_kind : length (shape_at ns place) ≤ c → 0 ≡ (get_or (shape_at ns place) c no_field).kind
  no_kind h = ap (λ (f : Field). f.kind) (no_field_lem h)

  pub no_level : length (shape_at ns place) ≤ c → 0 ≡ (get_or (shape_at ns place) c no_field).level
  no_level h = ap (λ (f : Field). f.level) (no_field_lem h)

pub ruleset fields = (refl, kind_is, level_is, no_kind, no_level)
