-- The desk call at the C border is the desk call on words: on buffers of whole words, vans_desk answers what `desk_of` answers on their words, and leaves in bytes what that leaves in words. So what sound/proofs/Promise.antt says of `desk_of` holds of vans_desk.
use Rattle.std.specs.Prelude.{ℕ, zero, suc, ◌+◌, ◌*◌, ◌/◌, ◌%◌, ◌<◌, ◌≡◌, refl, Bool, length, get_or, drop}
use Rattle.std.proofs.Common.{arith, ◌∙◌, drop_of_length-le}
use Rattle.std.proofs.Math.Path.{sym, ap}
use Rattle.std.proofs.Math.Bool.{true, false}
use mathlib.Core.List.{List, [], ◌∷◌, ◌++◌}
use Rattle.choice.specs.Pick.{pick}
use Rattle.machine.specs.Run.{Outcome}
use Rattle.listing.specs.Packet.{numbers_in}
use Rattle.listing.specs.Parts.{items_in}
use Rattle.checker.specs.Checked.{Checked, Accepted, Refused, NoRoom}
use Rattle.checker.specs.Check.{check_of}
use Rattle.eraser.specs.Erase.{needed_of}
use Rattle.refusals.specs.Refusals.{Verdict}
use Rattle.start.specs.Start.{fault_of, or_else, start_of}
use Rattle.service.specs.Numbers.{DOES_NOT_FIT}
use Rattle.service.specs.Desk.{right_sizes, sizes_of, later_fault, code_for, ran_of, DeskCall, refused_call, ran_call, serve_by, desk_by, desk_of}
use Rattle.desk.specs.Bytes.{words_of, byte_of, bytes_of}
use Rattle.desk.specs.ByteLaws.{words_length, bytes_back}
use Rattle.desk.specs.Answer.{answer_of}
use Rattle.desk.specs.RunCall.{REGS_BYTES}
use Rattle.desk.specs.LentCall.{LentCall, lent_call}
use Rattle.desk.specs.VansDesk.{whole_of, refused_bytes, ran_bytes, serve_bytes, bytes_size, bytes_fault, vans_desk_by, vans_desk_of}
use Rattle.desk.specs.VansDeskLaws.{whole_means}

-- what a call on words leaves, in bytes
abbrev pub in_bytes : DeskCall → LentCall
in_bytes d = lent_call (answer_of d.answer.number d.answer.place d.answer.count) (bytes_of d.code) (bytes_of d.heap) (bytes_of d.answer.regs)

-- each of a row of numbers is a byte
abbrev pub AreBytes : List ℕ → Type 0
AreBytes b = (i : ℕ) → get_or b i 0 < 256

bytes_append : (a b : List ℕ) → bytes_of (a ++ b) ≡ bytes_of a ++ bytes_of b
unfolding bytes_of
bytes_append [] b = refl
bytes_append (w ∷ a) b = ap (λ (l : List ℕ). w % 256 ∷ byte_of w 256 ∷ byte_of w 65536 ∷ byte_of w 16777216 ∷ l) (bytes_append a b)

bytes_drop : (n : ℕ) (b : List ℕ) → AreBytes b → length b % 4 ≡ 0 → bytes_of (drop n (words_of b)) ≡ drop (n * 4) b
unfolding words_of bytes_of
bytes_drop zero b f h = bytes_back (length b / 4) b (omega arith) f
bytes_drop (suc n) [] f h = sym (drop_of_length-le [] {i = suc n * 4} (omega arith))
bytes_drop (suc n) (x ∷ []) f h = absurd (omega arith)
bytes_drop (suc n) (x ∷ y ∷ []) f h = absurd (omega arith)
bytes_drop (suc n) (x ∷ y ∷ z ∷ []) f h = absurd (omega arith)
bytes_drop (suc n) (x ∷ y ∷ z ∷ w ∷ rest) f h =
    let four : suc (suc (suc (suc (n * 4)))) ≡ suc n * 4 = omega arith in
    bytes_drop n rest (λ i. f (suc (suc (suc (suc i))))) (omega arith) ∙ ap (λ (k : ℕ). drop k (x ∷ y ∷ z ∷ w ∷ rest)) four

module _ (code heap blocks regs : List ℕ) (budget : ℕ) (whole : whole_of (length code) (length heap) (length blocks) (length regs) ≡ true)
    (code_bytes : AreBytes code) (heap_bytes : AreBytes heap) (regs_bytes : AreBytes regs) where
  abbrev means : (length code % 4 + length heap % 4 + length blocks % 4 ≡ 0) × (length regs ≡ REGS_BYTES)
  means = whole_means (length code) (length heap) (length blocks) (length regs) whole

  back : (b : List ℕ) → AreBytes b → length b % 4 ≡ 0 → bytes_of (words_of b) ≡ b
  back b f h = bytes_back (length b / 4) b (omega arith) f

  -- a refusal leaves the buffers as they are, both ways
  refused_same : (f : Verdict) → refused_bytes f code heap regs ≡ in_bytes (refused_call f (words_of regs) (words_of code) (words_of heap))
  unfolding refused_bytes refused_call
  refused_same f =
      λ i.
      lent_call (answer_of f.number f.place 0) (sym (back code code_bytes (omega (arith, means.0))) i) (sym (back heap heap_bytes (omega (arith, means.0))) i)
      (sym (back regs regs_bytes (omega (arith, means.1))) i)

  -- and a run is the same
  ran_same : (o : Outcome) (erased : List ℕ) → ran_bytes o erased code ≡ in_bytes (ran_call o erased (words_of code))
  unfolding ran_bytes ran_call
  ran_same o erased =
      ap (λ (l : List ℕ). lent_call (answer_of o.machine.state.status 0 o.count) l (bytes_of o.machine.heap) (bytes_of o.machine.state.regs))
      (ap (λ (l : List ℕ). bytes_of erased ++ l) (sym (bytes_drop (length erased) code code_bytes (omega (arith, means.0)))) ∙ sym (bytes_append erased (drop (length erased) (words_of code))))

  served_same : (t : Bool) (f : Verdict) (o : Outcome) (erased : List ℕ)
      → pick t (ran_bytes o erased code) (refused_bytes f code heap regs) ≡ in_bytes (pick t (ran_call o erased (words_of code)) (refused_call f (words_of regs) (words_of code) (words_of heap)))
  unfolding pick
  served_same true f o erased = ran_same o erased
  served_same false f o erased = refused_same f

  -- the refusals behind the items' are the same
  fault_same : (ns : List ℕ) → bytes_fault ns code heap blocks regs budget ≡ later_fault ns (length (words_of code)) true (words_of heap) (words_of blocks) (words_of regs) budget
  unfolding bytes_fault later_fault bytes_size
  fault_same ns =
      λ i.
      or_else (sizes_of (needed_of (items_in ns)) (sym (words_length code) i) (right_sizes (sym (words_length heap) i) (sym (words_length blocks) i) (whole i)) budget)
      (start_of ns (words_of heap) (words_of blocks) (words_of regs))

  by_checked : (c : Checked) (ns : List ℕ) → vans_desk_by c ns code heap blocks regs budget ≡ in_bytes (desk_by c ns (words_of code) (words_of heap) (words_of blocks) (words_of regs) budget)
  unfolding vans_desk_by desk_by serve_bytes serve_by
  by_checked (Accepted n) ns =
      ap (λ (f : Verdict). serve_bytes f ns (words_of heap) (words_of regs) code heap regs budget) (fault_same ns)
      ∙ served_same _ _ (ran_of ns (words_of heap) (words_of regs) budget) (code_for ns)
  by_checked (Refused k place) ns = refused_same (fault_of k place)
  by_checked NoRoom ns = refused_same (fault_of DOES_NOT_FIT 0)

  pub vans_desk_is_desk : (packet : List ℕ) → vans_desk_of packet code heap blocks regs budget ≡ in_bytes (desk_of packet (words_of code) (words_of heap) (words_of blocks) (words_of regs) budget)
  unfolding vans_desk_of desk_of
  vans_desk_is_desk packet = by_checked (check_of packet) (numbers_in packet)
