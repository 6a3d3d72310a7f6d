-- Bytes to words and back, both ways, and the turns of the two loops that copy between them.
use Rattle.std.specs.Prelude.{ℕ, zero, suc, ◌+◌, ◌*◌, ◌/◌, ◌%◌, ◌^◌, ◌<◌, ◌≤◌, ◌≡◌, refl, List, [], ◌∷◌, ◌++◌, length, get_or, take, drop, set}
use Rattle.std.proofs.Math.Nat.{div-div-eq-div-mul}
use Rattle.std.proofs.Common.{div-add-mod', arith, add-one, sym, ap, ◌∙◌, append_assoc, append-nil, length-append, length-take, length-drop, drop_of_length-le, drop-cons, take-suc-set, take_all, take_at, length-take-le}
use Rattle.std.proofs.Math.Numerals.{towards_suc}
use Rattle.std.proofs.Math.Arith.{digits_div, digits_mod}
use borrow.Rule.Slice.PartMut.{put_mid, post_of}
use Rattle.desk.specs.Bytes.{word_from, words_of, byte_of, bytes_of}

-- four bytes and what is behind them
four : (b : List ℕ) (k : ℕ) → k + 3 < length b → drop k b ≡ get_or b k 0 ∷ get_or b (k + 1) 0 ∷ get_or b (k + 2) 0 ∷ get_or b (k + 3) 0 ∷ drop (k + 4) b
four b k h =
    simp towards_suc
    (drop-cons b k 0 (omega arith)
    ∙ ap (◌∷◌ (get_or b k 0))
    (drop-cons b (suc k) 0 (omega arith)
    ∙ ap (◌∷◌ (get_or b (suc k) 0))
    (drop-cons b (suc (suc k)) 0 (omega arith)
    ∙ ap (◌∷◌ (get_or b (suc (suc k)) 0)) (drop-cons b (suc (suc (suc k))) 0 (omega arith)))))

-- the words of the bytes from k on, where four more are there
words_at : (b : List ℕ) (k : ℕ) → k + 3 < length b
    → words_of (drop k b) ≡ word_from (get_or b k 0) (get_or b (k + 1) 0) (get_or b (k + 2) 0) (get_or b (k + 3) 0) ∷ words_of (drop (k + 4) b)
unfolding words_of
words_at b k h = ap words_of (four b k h)

-- filling the words `to` from the bytes b: those before i are filled, and the rest of b makes the rest
abbrev pub Filled : List ℕ → List ℕ → ℕ → Type 0
Filled b to i = take i to ++ words_of (drop (i * 4) b) ≡ words_of b

pub fill_more : (b to : List ℕ) (i v : ℕ) → length b ≡ length to * 4 → i < length to → Filled b to i
    → v ≡ word_from (get_or b (i * 4) 0) (get_or b (i * 4 + 1) 0) (get_or b (i * 4 + 2) 0) (get_or b (i * 4 + 3) 0) → Filled b (set to i v) (i + 1)
fill_more b to i v e h f p =
    let rest : List ℕ = words_of (drop ((i + 1) * 4) b) in
    let next : (i + 1) * 4 ≡ i * 4 + 4 = omega arith in
    let front : take (i + 1) (set to i v) ≡ take i to ++ (v ∷ []) = rw add-one (take-suc-set to i v h) in
    ap (λ (l : List ℕ). l ++ rest) front
    ∙ append_assoc (take i to) (v ∷ []) rest
    ∙ ap (λ (l : List ℕ). take i to ++ l) (ap (λ (n : ℕ). v ∷ words_of (drop n b)) next ∙ ap (λ (x : ℕ). x ∷ words_of (drop (i * 4 + 4) b)) p ∙ sym (words_at b (i * 4) (omega arith)))
    ∙ f

pub fill_all : (b to : List ℕ) (i : ℕ) → length b ≡ length to * 4 → length to ≤ i → Filled b to i → to ≡ words_of b
unfolding words_of
fill_all b to i e h f =
    sym (append-nil to)
    ∙ ap (λ (l : List ℕ). l ++ []) (sym (take_all i to h))
    ∙ ap (λ (l : List ℕ). take i to ++ words_of l) (sym (drop_of_length-le b {i = i * 4} (omega arith)))
    ∙ f

-- spilling the words w into the bytes `to`: those of the words before i are there, and the rest of w makes the rest
abbrev pub Spilled : List ℕ → List ℕ → ℕ → Type 0
Spilled w to i = take (i * 4) to ++ bytes_of (drop i w) ≡ bytes_of w

-- the four bytes of a word, put in the place of those at k
pub spill_more : (w to four : List ℕ) (i n : ℕ) → length to ≡ length w * 4 → i < length w → Spilled w to i → n ≡ 4 → four ≡ bytes_of (get_or w i 0 ∷ [])
    → (length (put_mid (i * 4) n to four) ≡ length w * 4) × Spilled w (put_mid (i * 4) n to four) (i + 1)
unfolding bytes_of
spill_more w to four i n e h f en ef =
    let k : ℕ = i * 4 in
    let few : length four ≡ 4 = ap length ef in
    let rest : List ℕ = post_of k n to in
    let there : length (take k to ++ four) ≡ (i + 1) * 4 = simp (length-append, length-take) (omega arith) in
    let front : take ((i + 1) * 4) (put_mid k n to four) ≡ take k to ++ four =
    ap (take ((i + 1) * 4)) (sym (append_assoc (take k to) four rest)) ∙ take_at (take k to ++ four) rest ((i + 1) * 4) there in
    let behind : drop i w ≡ get_or w i 0 ∷ drop (i + 1) w = rw (add-one, drop-cons w i 0) in (
      simp (length-append, length-take, length-drop) (omega arith),
      ap (λ (l : List ℕ). l ++ bytes_of (drop (i + 1) w)) front
          ∙ append_assoc (take k to) four (bytes_of (drop (i + 1) w))
          ∙ ap (λ (l : List ℕ). take k to ++ (l ++ bytes_of (drop (i + 1) w))) ef
          ∙ ap (λ (l : List ℕ). take k to ++ bytes_of l) (sym behind)
          ∙ f,
    )

pub spill_all : (w to : List ℕ) (i : ℕ) → length to ≡ length w * 4 → length w ≤ i → Spilled w to i → to ≡ bytes_of w
unfolding bytes_of
spill_all w to i e h f =
    sym (append-nil to)
    ∙ ap (λ (l : List ℕ). l ++ []) (sym (take_all (i * 4) to (omega arith)))
    ∙ ap (λ (l : List ℕ). take (i * 4) to ++ bytes_of l) (sym (drop_of_length-le w h))
    ∙ f

-- words that fit 32 bits come back from their bytes
regroup : (w p q r a b c : ℕ) → p * 256 + a ≡ w → q * 256 + b ≡ p → r * 256 + c ≡ q → a + b * 256 + c * 65536 + r * 16777216 ≡ w
regroup w p q r a b c e f g = omega arith

word_back : (w : ℕ) → w < 2 ^ 32 → word_from (w % 256) (byte_of w 256) (byte_of w 65536) (byte_of w 16777216) ≡ w
word_back w h =
    let two : w / 65536 ≡ w / 256 / 256 = sym (div-div-eq-div-mul w 256 256) in
    let three : w / 16777216 ≡ w / 256 / 256 / 256 = sym (div-div-eq-div-mul w 65536 256) ∙ ap (λ (x : ℕ). x / 256) two in
    let top : w / 256 / 256 / 256 % 256 ≡ w / 256 / 256 / 256 = rw (← three) (omega arith) in
    rw (two, three, top)
    (regroup w (w / 256) (w / 256 / 256) (w / 256 / 256 / 256) (w % 256) (w / 256 % 256) (w / 256 / 256 % 256) (div-add-mod' w 256) (div-add-mod' (w / 256) 256) (div-add-mod' (w / 256 / 256) 256))

pub words_back : (w : List ℕ) → ((i : ℕ) → get_or w i 0 < 2 ^ 32) → words_of (bytes_of w) ≡ w
unfolding words_of bytes_of
words_back [] h = refl
words_back (x ∷ w) h = cc (word_back x (h 0), words_back w (λ i. h (suc i)))

-- the byte v of a number, with others above and below it
byte_between : (w m above v below : ℕ) → w ≡ (above * 256 + v) * m + below → below < m → v < 256 → byte_of w m ≡ v
byte_between w m above v below e h g =
    ap (λ (x : ℕ). x / m % 256) e ∙ ap (λ (x : ℕ). x % 256) (digits_div (above * 256 + v) h) ∙ digits_mod above g

-- whole words of bytes come back from the words
pub bytes_back : (n : ℕ) (b : List ℕ) → length b ≡ n * 4 → ((i : ℕ) → get_or b i 0 < 256) → bytes_of (words_of b) ≡ b
unfolding words_of bytes_of
bytes_back zero [] e h = refl
bytes_back zero (a ∷ b) e h = absurd (omega arith)
bytes_back (suc n) [] e h = absurd (omega arith)
bytes_back (suc n) (x ∷ []) e h = absurd (omega arith)
bytes_back (suc n) (x ∷ y ∷ []) e h = absurd (omega arith)
bytes_back (suc n) (x ∷ y ∷ z ∷ []) e h = absurd (omega arith)
bytes_back (suc n) (x ∷ y ∷ z ∷ u ∷ b) e h =
    let hx : x < 256 = h 0 in
    let hy : y < 256 = h 1 in
    let hz : z < 256 = h 2 in
    let hu : u < 256 = h 3 in
    let first : word_from x y z u % 256 ≡ x = omega arith in
    let second : byte_of (word_from x y z u) 256 ≡ y = byte_between _ 256 (z + u * 256) y x (omega arith) hx hy in
    let third : byte_of (word_from x y z u) 65536 ≡ z = byte_between _ 65536 u z (x + y * 256) (omega arith) (omega arith) hz in
    let fourth : byte_of (word_from x y z u) 16777216 ≡ u = byte_between _ 16777216 0 u (x + y * 256 + z * 65536) (omega arith) (omega arith) hu in
    cc (first, second, third, fourth, bytes_back n b (omega arith) (λ i. h (suc (suc (suc (suc i))))))

-- a buffer's words are a fourth of its bytes
words_counted : (k : ℕ) (b : List ℕ) → length b ≤ k → length (words_of b) ≡ length b / 4
unfolding words_of
words_counted k [] h = refl
words_counted k (x ∷ []) h = refl
words_counted k (x ∷ y ∷ []) h = refl
words_counted k (x ∷ y ∷ z ∷ []) h = refl
words_counted zero (x ∷ y ∷ z ∷ w ∷ rest) h = absurd (omega arith)
words_counted (suc k) (x ∷ y ∷ z ∷ w ∷ rest) h = let more : length (words_of rest) ≡ length rest / 4 = words_counted k rest (omega arith) in omega (arith, more)

pub words_length : (b : List ℕ) → length (words_of b) ≡ length b / 4
words_length b = words_counted (length b) b (omega arith)

-- the front of a room that bytes are copied into
module _ (b room : List ℕ) where
  pub front_filled : (front : List ℕ) → front ≡ words_of b → front ++ drop (length b / 4) room ≡ words_of b ++ drop (length b / 4) room
  front_filled front e = ap (λ (l : List ℕ). l ++ drop (length b / 4) room) e

  -- and then holds their words
  module _ (room' : List ℕ) (e : room' ≡ words_of b ++ drop (length b / 4) room) where
    pub front_words : take (length b / 4) room' ≡ words_of b
    front_words = ap (take (length b / 4)) e ∙ take_at (words_of b) (drop (length b / 4) room) (length b / 4) (words_length b)

    pub filled_front : length room' ≡ length room → length b ≤ length room * 4 → length b / 4 ≤ length room'
    filled_front s h = omega arith

    pub filled_length : length b / 4 ≡ length (take (length b / 4) room')
    filled_length = sym (ap length front_words ∙ words_length b)

    pub filled_whole : length b % 4 ≡ 0 → length b ≡ length (take (length b / 4) room') * 4
    filled_whole z = rw (← filled_length) (omega arith)

pub ruleset filleds = (refl, filled_front, filled_length, front_words)

-- words that a buffer has room for, by its whole words, end within it
pub words_in_front : (words : List ℕ) (b : ℕ) → length words ≤ b / 4 → length words * 4 ≤ b
words_in_front words b h = omega arith

-- the front of a buffer that words are copied into
module _ (words buffer : List ℕ) (h : length words * 4 ≤ length buffer) where
  pub front_spilled : (front : List ℕ) → front ≡ bytes_of words → front ++ drop (length words * 4) buffer ≡ bytes_of words ++ drop (length words * 4) buffer
  front_spilled front e = ap (λ (l : List ℕ). l ++ drop (length words * 4) buffer) e
