-- A packet is taken exactly where it is the bytes of a row of numbers that the grammar takes to its end, and its numbers are then that row. Each way is one induction, over the numbers or over the turns of the reader.
use Prim.Native.Nat.{ℕ, zero, suc, ◌+◌, ◌^◌, ◌<◌, ◌≤◌, zero-le}
use Rattle.std.proofs.Common.{add-zero, zero-add, ◌∙◌, drop_of_length-le, length-append, length-drop, drop-drop, ltb-false}
use native.Mathlib.Omega.{arith}
use Rattle.std.proofs.Math.Path.{◌≡◌, refl, sym, ap}
use Rattle.std.specs.Prelude.{get_or, ltb}
use Rattle.std.proofs.Math.Logic.{⊎_elim}
use mathlib.Core.List.{List, [], ◌∷◌, ◌++◌}
use Rattle.std.proofs.Math.ListN.{length, drop}
use Rattle.std.proofs.Math.Seq.{drop-append_seam}
use Rattle.choice.specs.Pick.{either, not_less}
use Rattle.number.specs.Found.{Found}
use Rattle.number.specs.Found.{Number, Ended, Malformed}
use Rattle.number.specs.Number.{read_of}
use Rattle.number.specs.Encode.{encode_of}
use Rattle.number.specs.EncodeLaws.{encode_some, encoded_read, read_standing}
use Rattle.listing.specs.declared.grammar.Wanted.{Wanted}
use Rattle.listing.specs.declared.grammar.Wanted.TheVariants.{Edition}
use Rattle.listing.specs.Due.{Due}
use Rattle.listing.specs.Due.{Next, End, Refused}
use Rattle.listing.specs.Got.{Got}
use Rattle.listing.specs.Got.{Took, Bad}
use Rattle.listing.specs.Taken.{Taken}
use Rattle.listing.specs.Taken.{Listing}
use Rattle.listing.specs.Limits.{BYTES}
use Rattle.listing.specs.Grammar.{next_of}
use Rattle.listing.specs.Listing.{Each}
use Rattle.listing.specs.Fold.{fold_of}
use Rattle.listing.specs.Sorts.{refused_never_ends}
use Rattle.listing.specs.Packet.{due_then, found_then, got_of, end_of, numbers_then, numbers_from, taken_then, taken_from, numbers_in, taken_of}
use Rattle.listing.specs.Bytes.{bytes_of}

pub never : {A : Type 0} → ◌≡◌ {A = ℕ} 0 1 → A
never z = absurd (omega arith)

-- what a number that was got is: found there, and taken by the grammar
pub record GotNumber (bytes : List ℕ) (at : ℕ) (w : Wanted) (v behind : ℕ) (d : Due) : Type 0 where
  pub found : read_of bytes at ≡ Number v behind
  pub due : next_of w v ≡ d

got_due : (bytes : List ℕ) (at : ℕ) (w : Wanted) (x next v behind : ℕ) (d e : Due) → read_of bytes at ≡ Number x next → next_of w x ≡ e → due_then e x at next ≡ Took v behind d
    → GotNumber bytes at w v behind d
unfolding due_then
got_due bytes at w x next v behind d (Next u) f g p = record { found = cc; due = cc }
got_due bytes at w x next v behind d End f g p = record { found = cc; due = cc }
got_due bytes at w x next v behind d (Refused k) f g p = never cc

pub got_found : (bytes : List ℕ) (at : ℕ) (w : Wanted) (f : Found) (v behind : ℕ) (d : Due) → read_of bytes at ≡ f → found_then f (length bytes) at w ≡ Took v behind d
    → GotNumber bytes at w v behind d
unfolding found_then
got_found bytes at w (Number x next) v behind d e p = got_due bytes at w x next v behind d (next_of w x) e refl p
got_found bytes at w Ended v behind d e p = never cc
got_found bytes at w (Malformed place) v behind d e p = never cc

-- what holds of the numbers of a packet that is taken: what holds at its end, and goes on from behind a number to the number
module _ (bytes : List ℕ) (P : Due → ℕ → List ℕ → Type 0) (end : (at : ℕ) → length bytes ≤ at → P End at [])
    (more : (at : ℕ) (w : Wanted) (v behind : ℕ) (d : Due) (ns : List ℕ) → GotNumber bytes at w v behind d → P d behind ns → P (Next w) at (v ∷ ns)) where
  holds_at_end : (at count n : ℕ) → end_of (length bytes) at count ≡ Listing n → P End at []
  unfolding end_of
  holds_at_end at count n e =
      ⊎_elim (λ p. never (let z : ◌≡◌ {A = ℕ} 0 1 = cc p.1 in z)) (λ p. end at (ltb-false at (length bytes) p.0)) (either (ltb at (length bytes)) _ _ (Listing n) e)

  holds_then : (g : Got) (at count n : ℕ) (w : Wanted) (ns : Due → ℕ → List ℕ) (ts : Due → ℕ → ℕ → Taken) → got_of bytes at w ≡ g
      → ((d : Due) (a m : ℕ) → ts d a m ≡ Listing n → P d a (ns d a)) → taken_then g count ts ≡ Listing n → P (Next w) at (numbers_then g ns)
  unfolding taken_then numbers_then
  holds_then (Took v behind d) at count n w ns ts e h p = more at w v behind d (ns d behind) (got_found bytes at w (read_of bytes at) v behind d refl e) (h d behind (count + 1) p)
  holds_then (Bad k place) at count n w ns ts e h p = never cc

  holds_from : (fuel : ℕ) (due : Due) (at count n : ℕ) → taken_from fuel bytes due at count ≡ Listing n → P due at (numbers_from fuel bytes due at)
  unfolding taken_from numbers_from
  holds_from zero due at count n e = never cc
  holds_from (suc fuel) (Next w) at count n e =
      holds_then (got_of bytes at w) at count n w (numbers_from fuel bytes) (taken_from fuel bytes) refl (λ d a m. holds_from fuel d a m n) e
  holds_from (suc fuel) End at count n e = holds_at_end at count n e
  holds_from (suc fuel) (Refused k) at count n e = never cc

  holds_of_taken : (n : ℕ) → taken_of bytes ≡ Listing n → P (Next Edition) 0 (numbers_in bytes)
  unfolding taken_of numbers_in
  holds_of_taken n e =
      ⊎_elim (λ p. never (let z : ◌≡◌ {A = ℕ} 0 1 = cc p.1 in z)) (λ p. holds_from (length bytes + 1) (Next Edition) 0 0 n p.1)
      (either (ltb BYTES (length bytes)) _ _ (Listing n) e)

-- the grammar takes the numbers of a packet that is taken to its end
pub taken_ends : (bytes : List ℕ) (n : ℕ) → taken_of bytes ≡ Listing n → fold_of (Next Edition) (numbers_in bytes) ≡ End
unfolding fold_of
taken_ends bytes =
    holds_of_taken bytes (λ due at ns. fold_of due ns ≡ End) (λ at h. refl) (λ at w v behind d ns got ends. ap (λ (x : Due). fold_of x ns) got.due ∙ ends)

-- and the packet is the bytes of its numbers
pub taken_bytes : (bytes : List ℕ) → ((i : ℕ) → get_or bytes i 0 < 256) → (n : ℕ) → taken_of bytes ≡ Listing n → bytes ≡ bytes_of (numbers_in bytes)
unfolding bytes_of
taken_bytes bytes below =
    holds_of_taken bytes (λ due at ns. drop at bytes ≡ bytes_of ns) (λ at. drop_of_length-le bytes)
    (λ at w v behind d ns got stand. (encoded_read bytes at v behind below got.found).stands ∙ ap (λ (l : List ℕ). encode_of v ++ l) stand)

-- the other way: numbers that the grammar takes to its end, whose bytes stand there to the end
-- the reader's answer is a listing of these numbers
record Reads (bytes : List ℕ) (fuel : ℕ) (due : Due) (at count : ℕ) (ns : List ℕ) : Type 0 where
  taken : taken_from fuel bytes due at count ≡ Listing (count + length ns)
  numbers : numbers_from fuel bytes due at ≡ ns

nothing_left : (bytes : List ℕ) (at : ℕ) → drop at bytes ≡ [] → length bytes ≤ at
nothing_left bytes at e = omega (arith, sym (length-drop at bytes) ∙ ap length e)

module _ (bytes : List ℕ) where
  reads_end : (fuel at count : ℕ) → drop at bytes ≡ [] → Reads bytes (suc fuel) End at count []
  unfolding taken_from numbers_from end_of
  reads_end fuel at count e =
      record {
        taken = sym (not_less at (length bytes) _ _ _ (nothing_left bytes at e) (ap Listing (add-zero count)));
        numbers = refl;
      }

  -- one number taken, and the rest read
  reads_more : (fuel at count v behind : ℕ) (w : Wanted) (d : Due) (ns : List ℕ) → got_of bytes at w ≡ Took v behind d → Reads bytes fuel d behind (count + 1) ns
      → Reads bytes (suc fuel) (Next w) at count (v ∷ ns)
  unfolding taken_from numbers_from taken_then numbers_then
  reads_more fuel at count v behind w d ns e r =
      let longer : count + 1 + length ns ≡ count + suc (length ns) = omega arith in
      record {
        taken = ap (λ (g : Got). taken_then g count (taken_from fuel bytes)) e ∙ r.taken ∙ ap Listing longer;
        numbers = ap (λ (g : Got). numbers_then g (numbers_from fuel bytes)) e ∙ ap (λ (l : List ℕ). v ∷ l) r.numbers;
      }

  got_standing : (at : ℕ) (w : Wanted) (n behind : ℕ) (d : Due) (ns : List ℕ) → read_of bytes at ≡ Number n behind → next_of w n ≡ d → fold_of d ns ≡ End → got_of bytes at w ≡ Took n behind d
  unfolding found_then due_then
  got_standing at w n behind (Next u) ns e g f = ap (λ (x : Found). found_then x (length bytes) at w) e ∙ ap (λ (x : Due). due_then x n at behind) g
  got_standing at w n behind End ns e g f = ap (λ (x : Found). found_then x (length bytes) at w) e ∙ ap (λ (x : Due). due_then x n at behind) g
  got_standing at w n behind (Refused k) ns e g f = absurd (refused_never_ends k ns f)

  reads : (ns : List ℕ) (fuel : ℕ) (due : Due) (at count : ℕ) → Each (λ (n : ℕ). n < 2 ^ 32) ns → drop at bytes ≡ bytes_of ns → fold_of due ns ≡ End → length ns < fuel → Reads bytes fuel due at count ns
  unfolding fold_of bytes_of
  reads [] zero due at count b e f h = absurd (omega arith)
  reads [] (suc fuel) (Next w) at count b e f h = never cc
  reads [] (suc fuel) End at count b e f h = reads_end fuel at count e
  reads [] (suc fuel) (Refused k) at count b e f h = never cc
  reads (n ∷ ns) zero due at count b e f h = absurd (omega arith)
  reads (n ∷ ns) (suc fuel) (Next w) at count b e f h =
      let behind : ℕ = at + length (encode_of n) in
      let found : read_of bytes at ≡ Number n behind = read_standing bytes (bytes_of ns) at n b.0 e in
      let rest : drop behind bytes ≡ bytes_of ns = sym (drop-drop (length (encode_of n)) at bytes) ∙ ap (drop (length (encode_of n))) e ∙ drop-append_seam (encode_of n) (bytes_of ns) in
      reads_more fuel at count n behind w (next_of w n) ns (got_standing at w n behind (next_of w n) ns found refl f)
      (reads ns fuel (next_of w n) behind (count + 1) b.1 rest f (omega arith))
  reads (n ∷ ns) (suc fuel) End at count b e f h = never cc
  reads (n ∷ ns) (suc fuel) (Refused k) at count b e f h = never cc

-- a row of numbers has at least as many bytes
as_many : (ns : List ℕ) → length ns ≤ length (bytes_of ns)
unfolding bytes_of
as_many [] = zero-le
as_many (n ∷ ns) = omega (arith, length-append (encode_of n) (bytes_of ns), encode_some n, as_many ns)

-- numbers that the grammar takes to its end are taken from their bytes, where these are not over the packet limit
pub bytes_taken : (ns : List ℕ) → Each (λ (n : ℕ). n < 2 ^ 32) ns → fold_of (Next Edition) ns ≡ End → length (bytes_of ns) ≤ BYTES
    → (taken_of (bytes_of ns) ≡ Listing (length ns)) × (numbers_in (bytes_of ns) ≡ ns)
unfolding taken_of numbers_in
bytes_taken ns b f h =
    let r : Reads (bytes_of ns) (length (bytes_of ns) + 1) (Next Edition) 0 0 ns = reads (bytes_of ns) ns (length (bytes_of ns) + 1) (Next Edition) 0 0 b refl f (omega (arith, as_many ns)) in
    (sym (not_less BYTES (length (bytes_of ns)) _ _ _ h (sym (r.taken ∙ ap Listing (zero-add (length ns))))), r.numbers)
