-- Laws of the work over lent buffers for the proofs of its code: words that buffers were copied to fit, and each work is a case.
use Rattle.std.specs.Prelude.{ℕ, ◌*◌, ◌/◌, ◌<◌, ◌≤◌, ◌≡◌, refl, List, ◌++◌, length, take, drop, leb}
use Rattle.std.proofs.Common.{arith, ◌∙◌, le-leb}
use Rattle.std.proofs.lemmas.Bool.{lt-leb}
use Rattle.std.proofs.Math.Path.{sym, ap, subst}
use Rattle.choice.specs.Pick.{is_true, is_false, is_equal, not_equal, each_way}
use Rattle.std.specs.Borrow.{Bor}
use Rattle.desk.specs.Bytes.{words_of}
use Rattle.desk.specs.ByteLaws.{filled_length, filled_whole}
use Rattle.desk.specs.RunCall.{run_call, run_bytes_of}
use Rattle.desk.specs.LentCall.{LentCall, lent_call}
use Rattle.desk.specs.declared.buffers.Work.{Work}
use Rattle.desk.specs.declared.buffers.Work.TheVariants.{Run, Start}
use Rattle.desk.specs.Works.{work_number, numbers_for}
use Rattle.machine.specs.Numbers.{CODE_WORDS, HEAP_WORDS}
use Rattle.desk.specs.Work.{SMALL_WORDS, large_rooms, rooms_for, Whole, Lent, Fitting, Ready, Meant, start_bytes, beside_code, work_of}

-- the rooms where one of the two buffers is not small
module _ (table heap : ℕ) where
  pub past_small_table : SMALL_WORDS * 4 < table → large_rooms heap ≡ rooms_for table heap
  unfolding rooms_for
  past_small_table h = is_false (leb table (SMALL_WORDS * 4)) _ _ _ (lt-leb table (SMALL_WORDS * 4) h) refl

  pub past_small_heap : SMALL_WORDS * 4 < heap → large_rooms heap ≡ rooms_for table heap
  unfolding rooms_for
  past_small_heap h =
      each_way (λ (v : ℕ × ℕ). large_rooms heap ≡ v) (leb table (SMALL_WORDS * 4)) _ _
      (λ e. is_false (leb heap (SMALL_WORDS * 4)) _ _ _ (lt-leb heap (SMALL_WORDS * 4) h) refl)
      (λ e. refl)

-- are a code's, and one of two for the heap
module _ (heap : ℕ) where
  pub middle_rooms : heap ≤ CODE_WORDS * 4 → (CODE_WORDS, CODE_WORDS) ≡ large_rooms heap
  middle_rooms h = is_true (leb heap (CODE_WORDS * 4)) _ _ _ (le-leb heap (CODE_WORDS * 4) h) refl

  pub largest_rooms : CODE_WORDS * 4 < heap → (CODE_WORDS, HEAP_WORDS) ≡ large_rooms heap
  largest_rooms h = is_false (leb heap (CODE_WORDS * 4)) _ _ _ (lt-leb heap (CODE_WORDS * 4) h) refl

-- a heap in a room that is large enough
pub heap_lent : (table regs : ℕ) (h h' heap : List ℕ) → Whole table (length heap) regs → h' ≡ words_of heap ++ drop (length heap / 4) h → Lent (length (take (length heap / 4) h')) (length heap) regs
heap_lent table regs h h' heap p e =
    let few : length heap / 4 ≡ length (take (length heap / 4) h') = filled_length heap h h' e in
    record { heap_few = omega (arith, few, p.heap_fits); heap_is = filled_whole heap h h' e p.heap_whole; regs_fit = p.regs_fit }

-- and a table in such a room
pub both_fit : (t h t' h' table heap : List ℕ) (regs : ℕ) → Whole (length table) (length heap) regs → t' ≡ words_of table ++ drop (length table / 4) t → h' ≡ words_of heap ++ drop (length heap / 4) h
    → Fitting (length (take (length table / 4) t')) (length (take (length heap / 4) h')) (length heap) regs
both_fit t h t' h' table heap regs p et eh =
    let few : length table / 4 ≡ length (take (length table / 4) t') = filled_length table t t' et in
    record { table_few = omega (arith, few, p.table_fits); lent = heap_lent (length table) regs h h' heap p eh }

-- what a work asks of numbers and code buffer
module _ (work : ℕ) (ns : List ℕ) (code : ℕ) where
  pub start_meant : Ready ns code → Meant work ns code
  start_meant r = record { ready = λ n. r }

-- each work is a case
module _ (work : Work) (code table heap regs : List ℕ) (budget : ℕ) (l : LentCall) where
  pub work_runs : work ≡ Run → l ≡ beside_code code (run_bytes_of table heap regs budget) → l ≡ work_of (work_number work) (numbers_for work) code table heap regs budget
  unfolding work_of
  work_runs z p = is_equal (work_number work) 0 _ _ _ (ap work_number z) p

  pub work_starts : (ns : Bor (List ℕ)) → work ≡ Start ns → l ≡ start_bytes ns.now code table heap regs budget → l ≡ work_of (work_number work) (numbers_for work) code table heap regs budget
  unfolding work_of
  work_starts ns z p =
      not_equal (work_number work) 0 _ _ _ (λ q. absurd (omega (arith, q, ap work_number z)))
      (p ∙ ap (λ (l : List ℕ). start_bytes l code table heap regs budget) (sym (ap numbers_for z)))

-- a listing that is started is ready
pub work_ready : (work : Work) (code : ℕ) (ns : Bor (List ℕ)) → work ≡ Start ns → Meant (work_number work) (numbers_for work) code → Ready ns.now code
work_ready work code ns z m =
    subst (λ (l : List ℕ). Ready l code) (ap numbers_for z) (m.ready (λ q. absurd (omega (arith, q, ap work_number z))))

-- and of a number of a work
module _ (work : ℕ) (ns code table heap regs : List ℕ) (budget : ℕ) where
  pub ran_work : (a : ℕ) (code' heap' regs' : List ℕ) → work ≡ 0 → lent_call a code' heap' regs' ≡ work_of work ns code table heap regs budget → run_call a heap' regs' ≡ run_bytes_of table heap regs budget
  unfolding work_of
  ran_work a code' heap' regs' z p = ap (λ (l : LentCall). run_call l.answer l.heap l.regs) (p ∙ sym (is_equal work 0 _ _ _ z refl))

  pub started_work : (l : LentCall) → work ≡ 1 → l ≡ work_of work ns code table heap regs budget → l ≡ start_bytes ns code table heap regs budget
  unfolding work_of
  started_work l z p = p ∙ sym (not_equal work 0 _ _ _ (λ q. omega arith) refl)

pub ruleset works = (refl, work_ready, work_runs, work_starts)
