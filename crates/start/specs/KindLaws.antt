-- Where bases rise, the kinds of the blocks can be entered by address. `entries` and `kinds` hold the laws for a search.
use Rattle.std.specs.Prelude.{ℕ, ◌+◌, ◌-◌, ◌<◌, ◌≤◌, ◌≡◌, refl, Bool, true, false, List, [], length, get_or, set, replicate, eqb}
use Rattle.std.proofs.Common.{arith, Fits, sym, ap, ◌∙◌, length-set, get_or-set_same, get_or-set_other, eq-eqb, eqb-true}
use Rattle.std.specs.Int.{w8, w32}
use Rattle.std.proofs.lemmas.List.{length-replicate, get_or-replicate, get_or-map}
use Rattle.choice.specs.Pick.{if_equal, not_equal}
use Rattle.listing.specs.Limits.{SHAPES}
use Rattle.listing.specs.Parts.{number_at, count_at, behind_shape, shapes_in, shape_at as shape_at_place}
use Rattle.listing.specs.PartLaws.{parts_length}
use Rattle.listing.specs.PlaceLaws.{count_held}
use Rattle.refusals.specs.Refusals.{Verdict}
use Rattle.start.specs.Start.{Row, row_at, passed, rows_from, is_block, is_of_kind}
use Rattle.start.specs.Meaning.{row_in, Block}
use Rattle.start.specs.PairLaws.{row_of, rows_in, rows_counted}
use Rattle.start.specs.ClearLaws.{block_is}
use Rattle.start.specs.RowLaws.{rows_clear}

-- how many addresses the table has
unfoldable pub ADDRESSES : ℕ
ADDRESSES = 16384

-- what good rows have: bases rise strictly, and shapes are below the limit
pub record Rising (rows : List Row) : Type 0 where
  pub rises : (i j : ℕ) → i < j → j < length rows → (row_in rows i).base < (row_in rows j).base
  pub shapes : (i : ℕ) → i < length rows → (row_in rows i).shape < SHAPES

-- a table that has the kind of the pointers to each block at its base, and 0 elsewhere
pub record Kinds (rows : List Row) (kinds : List ℕ) : Type 0 where
  pub tells : (a s : ℕ) → a < length kinds → eqb (get_or kinds a 0) (s + 1) ≡ is_block rows a s

-- a row that an address is the base of, before row n
pub record Begins (rows : List Row) (n a : ℕ) : Type 0 where
  pub row : ℕ
  pub before : row < n
  pub base : (row_in rows row).base ≡ a

-- the rows before row n are entered
pub record Entered (rows : List Row) (n : ℕ) (kinds : List ℕ) : Type 0 where
  pub long : length kinds ≡ ADDRESSES
  pub within : n ≤ length rows
  pub found : (i : ℕ) → i < n → (row_in rows i).base < ADDRESSES → get_or kinds (row_in rows i).base 0 ≡ (row_in rows i).shape + 1
  pub only : (a : ℕ) → a < ADDRESSES → (get_or kinds a 0 ≡ 0 → ⊥) → Begins rows n a

-- two tests that hold together are equal
same_truth : (t u : Bool) → (t ≡ true → u ≡ true) → (u ≡ true → t ≡ true) → t ≡ u
same_truth true u p q = sym (p refl)
same_truth false true p q = q refl
same_truth false false p q = refl

pub entered_none : (rows : List Row) (kinds : List ℕ) → kinds ≡ replicate ADDRESSES 0 → Entered rows 0 kinds
entered_none rows kinds e =
    record {
      long = ap length e ∙ length-replicate ADDRESSES 0;
      within = omega arith;
      found = λ i h l. absurd (omega arith);
      only = λ a h z. absurd (z (ap (λ (l : List ℕ). get_or l a 0) e ∙ get_or-replicate ADDRESSES a 0 0 h));
    }

more : (rows : List Row) (n a : ℕ) → Begins rows n a → Begins rows (n + 1) a
more rows n a b = record { row = b.row; before = omega (arith, b.before); base = b.base }

-- the base and the shape of a pair of words
abbrev pub base_at : List (List ℕ) → ℕ → ℕ
base_at pairs n = get_or (get_or pairs n []) 0 0

abbrev pub shape_at : List (List ℕ) → ℕ → ℕ
shape_at pairs n = get_or (get_or pairs n []) 1 0

row_is : (pairs : List (List ℕ)) (n : ℕ) → n < length pairs → row_in (rows_in pairs) n ≡ row_of (base_at pairs n) (shape_at pairs n)
unfolding rows_in
row_is pairs n h = get_or-map (λ (p : List ℕ). row_at p 0) pairs n [] _ h

module _ (pairs : List (List ℕ)) (n : ℕ) (kinds : List ℕ) (e : Entered (rows_in pairs) n kinds) where
  rows : List Row
  rows = rows_in pairs

  module _ (r : Rising (rows_in pairs)) (h : n < length pairs) where
    base : ℕ
    base = base_at pairs n

    s : ℕ
    s = shape_at pairs n

    p : (row_in rows n).base ≡ base
    unfolding rows base
    p = ap (λ (x : Row). x.base) (row_is pairs n h)

    q : (row_in rows n).shape ≡ s
    unfolding rows s
    q = ap (λ (x : Row). x.shape) (row_is pairs n h)

    inside : n < length rows
    unfolding rows
    inside = omega (arith, rows_counted pairs)

    pub entered_here : base_at pairs n < ADDRESSES → Entered (rows_in pairs) (n + 1) (set kinds (base_at pairs n) (shape_at pairs n + 1))
    unfolding rows base s
    entered_here b =
        record {
          long = length-set kinds base _ ∙ e.long;
          within = omega (arith, inside);
          found = λ i l m. if_equal (λ (x : ℕ). get_or (set kinds base (s + 1)) (row_in rows i).base 0 ≡ (row_in rows i).shape + 1) i n 0 0
              (λ same. ap (λ (x : ℕ). get_or (set kinds base (s + 1)) (row_in rows x).base 0) same ∙ ap (λ (x : ℕ). get_or (set kinds base (s + 1)) x 0) p ∙ get_or-set_same kinds base (s + 1) 0 (omega (arith, e.long)) ∙ omega (arith, q, ap (λ (x : ℕ). (row_in rows x).shape) same))
              (λ other. get_or-set_other kinds base (row_in rows i).base (s + 1) 0 (λ z. absurd (omega (arith, z, p, r.rises i n (omega arith) inside))) ∙ e.found i (omega arith) m);
          only = λ a l z. if_equal (λ (x : ℕ). Begins rows (n + 1) a) a base 0 0
              (λ same. record { row = n; before = omega arith; base = p ∙ sym same })
              (λ other. more rows n a (e.only a l (λ w. z (get_or-set_other kinds base a (s + 1) 0 other ∙ w))));
        }

    pub entered_past : ADDRESSES ≤ base_at pairs n → Entered (rows_in pairs) (n + 1) kinds
    unfolding rows base
    entered_past b =
        record {
          long = e.long;
          within = omega (arith, inside);
          found = λ i l m. if_equal (λ (x : ℕ). get_or kinds (row_in rows i).base 0 ≡ (row_in rows i).shape + 1) i n 0 0
              (λ same. absurd (omega (arith, p, ap (λ (x : ℕ). (row_in rows x).base) same)))
              (λ other. e.found i (omega arith) m);
          only = λ a l z. more rows n a (e.only a l z);
        }

    -- the kind of a row fits its byte
    pub kind_fits : Fits w8 (shape_at pairs n + 1)
    unfolding rows s
    kind_fits = record { fits = omega (arith, q, r.shapes n inside) }

    pub kind_adds : Fits w32 (shape_at pairs n + 1)
    unfolding rows s
    kind_adds = record { fits = omega (arith, q, r.shapes n inside) }

  pub kind_inside : (a : ℕ) → a < ADDRESSES → a < length kinds
  kind_inside a b = omega (arith, e.long)

  pub entered_all : length pairs ≤ n → Kinds (rows_in pairs) kinds
  unfolding rows
  entered_all z = record { tells = λ a s h. same_truth _ _ (λ p. (block_is rows a s).1 (block a s h (eqb-true _ _ p))) (λ p. eq-eqb _ _ (there a s h ((block_is rows a s).0 p))) }
    where
      block : (a s : ℕ) → a < length kinds → get_or kinds a 0 ≡ s + 1 → Block rows a s
      block a s h p =
          let b = e.only a (omega (arith, e.long)) (λ w. absurd (omega (arith, sym p ∙ w))) in
          let kind = e.found b.row b.before (omega (arith, b.base, e.long)) in
          record {
            row = b.row;
            is_a_row = omega (arith, b.before, e.within);
            base = b.base;
            shape = omega (arith, kind, p, ap (λ (x : ℕ). get_or kinds x 0) b.base);
          }

      there : (a s : ℕ) → a < length kinds → Block rows a s → get_or kinds a 0 ≡ s + 1
      there a s h k = omega (arith, ap (λ (x : ℕ). get_or kinds x 0) k.base, e.found k.row (omega (arith, k.is_a_row, rows_counted pairs)) (omega (arith, k.base, e.long)), k.shape)

pub ruleset entries = (entered_none, entered_here, entered_past, entered_all, kind_fits, kind_adds, kind_inside)

-- no numbers have more shapes than the limit
few_shapes : (numbers : List ℕ) → length (shapes_in numbers) ≤ SHAPES
unfolding shapes_in
few_shapes numbers = count_held SHAPES (number_at numbers 1) _ (parts_length (shape_at_place numbers) (behind_shape numbers) 2 (count_at SHAPES numbers 1))

-- good rows rise
pub good_rise : (numbers : List ℕ) (words : ℕ) (rows : List Row) → passed ≡ rows_from (shapes_in numbers) words 0 0 rows → Rising rows
good_rise numbers words rows e =
    let g = (rows_clear (shapes_in numbers) words rows).0 (ap (λ (f : Verdict). f.number) (sym e)) in
    record { rises = g.rises; shapes = λ i h. omega (arith, g.exists i h, few_shapes numbers) }

-- a table of no address, and the kind of a value whose address is in the table
pub no_kinds : (rows : List Row) (kinds : List ℕ) → length kinds ≡ 0 → Kinds rows kinds
no_kinds rows kinds e = record { tells = λ a s h. absurd (omega (arith, e)) }

pub kind_here : (rows : List Row) (kinds : List ℕ) (kind a : ℕ) → Kinds rows kinds → (kind ≡ 0 → ⊥) → a < length kinds → (r : Bool) → r ≡ eqb (get_or kinds a 0) kind → r ≡ is_of_kind rows kind a
unfolding is_of_kind
kind_here rows kinds kind a k z h r e = not_equal kind 0 _ _ _ z (e ∙ ap (eqb (get_or kinds a 0)) (omega arith) ∙ k.tells a (kind - 1) h)

pub ruleset kinds = (no_kinds, kind_here)
