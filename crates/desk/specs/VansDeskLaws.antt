-- Laws of vans_desk for the proofs of its code: what passes the sizes is ready for the start; one law for each way through it.
use Rattle.std.specs.Prelude.{ℕ, ◌+◌, ◌*◌, ◌/◌, ◌%◌, ◌^◌, ◌<◌, ◌≤◌, ◌≡◌, refl, Bool, true, length, take}
use Rattle.std.proofs.Common.{arith, sym, ◌∙◌, eqb-true}
use Rattle.std.proofs.Math.Path.{ap, subst}
use mathlib.Core.List.{List, ◌++◌}
use Rattle.std.proofs.Math.ListN.{drop}
use Rattle.choice.specs.Pick.{if_equal, each_way, if_less, is_equal, not_equal}
use Rattle.machine.specs.Numbers.{CODE_WORDS, HEAP_WORDS, BUDGET}
use Rattle.machine.specs.Run.{run_of}
use Rattle.listing.specs.Parts.{items_in}
use Rattle.listing.specs.PartLaws.{parts_length}
use Rattle.eraser.specs.Erase.{needed_of, erased_by, erase_of}
use Rattle.eraser.specs.Theorems.{needed_fits}
use Rattle.refusals.specs.declared.Refusal.{Refusal}
use Rattle.refusals.specs.Refusals.{number_of, Verdict, verdict_of}
use Rattle.refusals.specs.RefusalLaws.{some_number}
use Rattle.start.specs.Start.{row_at, rows_of, passed, or_else, first_listed, start_of}
use Rattle.start.specs.Theorems.{refusal_is_first, place_below}
use Rattle.start.specs.ListedLaws.{Indexed}
use Rattle.service.specs.Numbers.{BLOCK_WORDS}
use Rattle.service.specs.Desk.{right_sizes, sizes_of, code_for, ran_of}
use Rattle.service.specs.DeskLaws.{right_means, sizes_pass, needed_is, erased_front}
use Rattle.desk.specs.Bytes.{words_of, bytes_of}
use Rattle.desk.specs.Answer.{answer_of}
use Rattle.desk.specs.RunCall.{REGS_BYTES, in_bytes}
use Rattle.desk.specs.LentCall.{LentCall, lent_call}
use Rattle.desk.specs.EraseCallLaws.{code_room, room_fits, code_count, code_is}
use Rattle.desk.specs.VansDesk.{whole_of, refused_bytes, ran_bytes, serve_bytes, bytes_size, bytes_fault}
use Rattle.desk.specs.Work.{Whole, Fitting, Ready, start_bytes, beside_code}
use Rattle.desk.specs.WorkLaws.{start_meant, started_work}

-- no refusal has the number of none
pub numbered : (r : Refusal) → number_of r ≡ 0 → ⊥
numbered r e = some_number r (sym e)

-- the code of a listing's numbers, erased into a room that is large enough, and run
module _ (ns c c' code : List ℕ) (n : ℕ) (whole : length c ≡ CODE_WORDS) (e : erased_by n c' ≡ erase_of ns c) where
  front_is : take n c' ≡ code_for ns
  front_is = erased_front ns c c' n (room_fits ns c c' n whole e) e

  pub end_fits : needed_of (items_in ns) ≤ length code / 4 → length c' ≡ length c → length (take n c') * 4 ≤ length code
  end_fits h s = omega (arith, code_is ns c c' n whole e s, needed_is ns c c' n (room_fits ns c c' n whole e) e)

  pub ran_erased : (code' h r : List ℕ) (budget : ℕ) (l : LentCall) → code' ≡ bytes_of (take n c') ++ drop (length (take n c') * 4) code → l ≡ beside_code code' (in_bytes (run_of (take n c') h r budget))
      → l ≡ ran_bytes (ran_of ns h r budget) (code_for ns) code
  unfolding ran_bytes in_bytes
  ran_erased code' h r budget l f o =
      let same : l ≡ beside_code code' (in_bytes (ran_of ns h r budget)) = o ∙ ap (λ (l : List ℕ). beside_code code' (in_bytes (run_of l h r budget))) front_is in
      let code_is : code' ≡ bytes_of (code_for ns) ++ drop (length (code_for ns) * 4) code = f ∙ ap (λ (l : List ℕ). bytes_of l ++ drop (length l * 4) code) front_is in
      same ∙ ap (λ (l : List ℕ). beside_code l (in_bytes (ran_of ns h r budget))) code_is

pub ruleset erasings = (refl, code_room, code_count, code_is, end_fits, ran_erased)

-- the start over these words
module _ (ns code heap regs h b r : List ℕ) (budget : ℕ) where
  pub start_runs : (l : LentCall) → passed ≡ start_of ns h b r → l ≡ ran_bytes (ran_of ns h r budget) (code_for ns) code → l ≡ serve_bytes (start_of ns h b r) ns h r code heap regs budget
  unfolding serve_bytes
  start_runs l z p = is_equal (start_of ns h b r).number 0 _ _ _ (ap (λ (x : Verdict). x.number) (sym z)) p

  pub start_refuses : (number place a : ℕ) → verdict_of number place ≡ start_of ns h b r → (number ≡ 0 → ⊥) → a ≡ answer_of number place 0 → lent_call a code heap regs ≡ serve_bytes (start_of ns h b r) ns h r code heap regs budget
  unfolding serve_bytes refused_bytes
  start_refuses number place a e z p =
      not_equal (start_of ns h b r).number 0 _ _ _ (λ q. z (ap (λ (x : Verdict). x.number) e ∙ q))
      (ap (λ (x : ℕ). lent_call x code heap regs) (p ∙ ap (λ (x : Verdict). answer_of x.number x.place 0) e))

-- a refusal of the start has a small place
module _ (ns h b r : List ℕ) (code heap regs number place : ℕ) (e : verdict_of number place ≡ start_of ns h b r) (p : Fitting (length b) (length h) heap regs) (q : Ready ns code) where
  pub start_place : (number ≡ 0 → ⊥) → place < 2 ^ 24
  unfolding HEAP_WORDS CODE_WORDS rows_of
  start_place z =
      place_below ns h b r number place (2 ^ 24) (refusal_is_first ns h b r number place (omega arith) (sym e))
      (omega (arith, parts_length (row_at b) (λ p. p + 2) 0 (length b / 2), p.table_few))
      (omega (arith, p.lent.heap_few)) (omega arith)
      (λ n l. omega (arith, q.indexed n l))

pub ruleset starts = (refl, numbered, start_runs, start_refuses, start_place)

-- what the words that buffers were copied to make, the buffers make
pub of_buffers : (ns code heap blocks regs h b r : List ℕ) (budget : ℕ) (l : LentCall) → h ≡ words_of heap → b ≡ words_of blocks → r ≡ words_of regs
    → l ≡ serve_bytes (start_of ns h b r) ns h r code heap regs budget → l ≡ start_bytes ns code blocks heap regs budget
of_buffers ns code heap blocks regs h b r budget l eh eb er p = p ∙ (λ i. serve_bytes (start_of ns (eh i) (eb i) (er i)) ns (eh i) (er i) code heap regs budget)

pub whole_means : (code heap blocks regs : ℕ) → whole_of code heap blocks regs ≡ true → (code % 4 + heap % 4 + blocks % 4 ≡ 0) × (regs ≡ REGS_BYTES)
unfolding whole_of
whole_means code heap blocks regs =
    if_equal (λ (t : Bool). t ≡ true → (code % 4 + heap % 4 + blocks % 4 ≡ 0) × (regs ≡ REGS_BYTES)) (code % 4 + heap % 4 + blocks % 4) 0 _ _
    (λ z q. (z, eqb-true regs REGS_BYTES q))
    (λ z q. let x : ◌≡◌ {A = ℕ} 0 1 = cc in absurd (omega arith))

-- the sizes
module _ (ns : List ℕ) (code heap blocks regs budget : ℕ) (whole : Bool) (f : Verdict) where
  pub sizes_are : whole ≡ whole_of code heap blocks regs → f ≡ sizes_of (needed_of (items_in ns)) (code / 4) (right_sizes (heap / 4) (blocks / 4) whole) budget → f ≡ bytes_size ns code heap blocks regs budget
  unfolding bytes_size
  sizes_are w e = e ∙ (λ i. sizes_of (needed_of (items_in ns)) (code / 4) (right_sizes (heap / 4) (blocks / 4) (w i)) budget)

pub ruleset sizings = (refl, sizes_are)

module _ (ns : List ℕ) (code heap blocks regs budget : ℕ) where
  -- what has passed the sizes; a block table is no longer than the longest code
  module _ (z : passed ≡ bytes_size ns code heap blocks regs budget) where
    abbrev passes : (needed_of (items_in ns) ≤ code / 4) × (right_sizes (heap / 4) (blocks / 4) (whole_of code heap blocks regs) ≡ true) × (budget ≤ BUDGET)
    unfolding bytes_size
    passes = sizes_pass (needed_of (items_in ns)) (code / 4) (right_sizes (heap / 4) (blocks / 4) (whole_of code heap blocks regs)) budget (ap (λ (x : Verdict). x.number) (sym z))

    pub size_ready : Indexed (first_listed ns) → Ready ns code
    size_ready i = record { indexed = i; code_fits = passes.0 }

    pub size_whole : Whole blocks heap regs
    unfolding BLOCK_WORDS CODE_WORDS
    size_whole =
        let right_is = right_means (heap / 4) (blocks / 4) (whole_of code heap blocks regs) passes.1 in
        let whole_is = whole_means code heap blocks regs right_is.2 in
        record {
          table_whole = omega (arith, whole_is.0);
          heap_whole = omega (arith, whole_is.0);
          table_fits = omega (arith, right_is.1);
          heap_fits = right_is.0;
          regs_fit = whole_is.1;
        }

  pub size_place : (number place : ℕ) → verdict_of number place ≡ bytes_size ns code heap blocks regs budget → place < 2 ^ 24
  unfolding bytes_size sizes_of
  size_place number place e =
      let Goal : Verdict → Type 0 = λ (x : Verdict). x.place < 2 ^ 24 in
      subst Goal (sym e)
      (if_less Goal (code / 4) (needed_of (items_in ns)) _ _ (λ h. omega (arith, needed_fits ns))
      (λ h. each_way Goal (right_sizes (heap / 4) (blocks / 4) (whole_of code heap blocks regs)) _ _
      (λ q. if_less Goal BUDGET budget _ _ (λ k. omega arith) (λ k. omega arith))
      (λ q. omega arith)))

-- sizes, and then the start
module _ (ns code heap blocks regs : List ℕ) (budget : ℕ) where
  abbrev size : Verdict
  size = bytes_size ns (length code) (length heap) (length blocks) (length regs) budget

  abbrev served : Verdict → LentCall
  served x = serve_bytes x ns (words_of heap) (words_of regs) code heap regs budget

  pub size_refuses : (number place a : ℕ) → verdict_of number place ≡ size → (number ≡ 0 → ⊥) → a ≡ answer_of number place 0 → lent_call a code heap regs ≡ served (bytes_fault ns code heap blocks regs budget)
  unfolding serve_bytes refused_bytes bytes_fault or_else
  size_refuses number place a e z p =
      let not_zero : size.number ≡ 0 → ⊥ = λ q. z (ap (λ (x : Verdict). x.number) e ∙ q) in
      not_equal size.number 0 _ _ _ not_zero (ap (λ (x : ℕ). lent_call x code heap regs) (p ∙ ap (λ (x : Verdict). answer_of x.number x.place 0) e))
      ∙ ap served (not_equal size.number 0 size _ size not_zero refl)

  pub size_opens : (l : LentCall) → passed ≡ size → l ≡ start_bytes ns code blocks heap regs budget → l ≡ served (bytes_fault ns code heap blocks regs budget)
  unfolding bytes_fault or_else
  size_opens l z p = p ∙ ap served (is_equal size.number 0 _ _ _ (ap (λ (x : Verdict). x.number) (sym z)) refl)

pub ruleset servings = (refl, numbered, size_refuses, size_opens, size_ready, size_whole, start_meant, started_work, size_place)
