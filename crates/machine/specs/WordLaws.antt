-- Putting a word together and splitting it again: each part comes back, and so does the kind.
use Rattle.std.specs.Prelude.{ℕ, ◌+◌, ◌-◌, ◌*◌, ◌/◌, ◌%◌, ◌^◌, ◌<◌, ◌≤◌, ◌≡◌, eqb}
use native.Mathlib.Omega.{arith}
use Rattle.std.proofs.Math.Path.{refl, sym, ap}
use Rattle.std.proofs.Common.{◌∙◌, lit<, shr-shr}
use Rattle.std.proofs.lemmas.Nat.{mod-pow-add}
use Rattle.choice.specs.Pick.{pick, cases, is_equal}
use Rattle.machine.specs.Word.{Kind, halt, jmp, bnz, load, store, compute, compute_immediate, bad, whole, halt_in, jmp_in, bnz_in, load_in, store_in, compute_in, compute_immediate_in, opcode_of, rd_of, rs_of, rt_of, low_of, kind_at, kind_of, joined, word_of, InRange}

-- the parts of a word, at once
pub record Parts (w op rd rs rt low : ℕ) : Type 0 where
  pub opcode : opcode_of w ≡ op
  pub rd_part : rd_of w ≡ rd
  pub rs_part : rs_of w ≡ rs
  pub rt_part : rt_of w ≡ rt
  pub low_part : low_of w ≡ low

-- each part comes back
pub split_joined : (op rd rs rt low : ℕ) → op < 16 → rd < 16 → rs < 16 → rt < 16 → low < 2 ^ 16 → Parts (joined op rd rs rt low) op rd rs rt low
split_joined op rd rs rt low ho hd hs ht hl =
    record { opcode = omega arith; rd_part = omega arith; rs_part = omega arith; rt_part = omega arith; low_part = omega arith }

-- the kind that an opcode stands for; v is the opcode as the code holds it
module _ (v op w : ℕ) (e : v ≡ op) where
  pub op_halt : v ≡ 0 → halt_in w ≡ kind_at op w
  unfolding kind_at
  op_halt z = rw (← e) (search cases)

  pub op_jmp : v ≡ 1 → jmp_in w ≡ kind_at op w
  unfolding kind_at
  op_jmp z = rw (← e) (search cases)

  pub op_bnz : v ≡ 2 → bnz_in w ≡ kind_at op w
  unfolding kind_at
  op_bnz z = rw (← e) (search cases)

  pub op_load : v ≡ 3 → load_in w ≡ kind_at op w
  unfolding kind_at
  op_load z = rw (← e) (search cases depth 6)

  pub op_store : v ≡ 4 → store_in w ≡ kind_at op w
  unfolding kind_at
  op_store z = rw (← e) (search cases depth 7)

  behind : 5 ≤ v → (k k' : Kind) → k ≡ k' → k ≡ pick (eqb v 0) (halt_in w) (pick (eqb v 1) (jmp_in w) (pick (eqb v 2) (bnz_in w) (pick (eqb v 3) (load_in w) (pick (eqb v 4) (store_in w) k'))))
  behind h k k' p =
      let n0 : v ≡ 0 → ⊥ = λ q. omega arith in
      let n1 : v ≡ 1 → ⊥ = λ q. omega arith in
      let n2 : v ≡ 2 → ⊥ = λ q. omega arith in
      let n3 : v ≡ 3 → ⊥ = λ q. omega arith in
      let n4 : v ≡ 4 → ⊥ = λ q. omega arith in
      search cases depth 8

  pub op_compute : 5 ≤ v → v < 10 → compute_in v w ≡ kind_at op w
  unfolding kind_at
  op_compute g h = rw (← e) (behind g _ _ (search cases))

  pub op_compute_immediate : 10 ≤ v → v < 15 → compute_immediate_in (v - 5) w ≡ kind_at op w
  unfolding kind_at
  op_compute_immediate g h = rw (← e) (behind (omega arith) _ _ (search cases))

  pub op_none : 15 ≤ v → bad ≡ kind_at op w
  unfolding kind_at
  op_none h = let g : 10 ≤ v = omega arith in rw (← e) (behind (omega arith) _ _ (search cases))

  -- an operation x whose opcode is the single number k
  pub op_compute_at : (x k : ℕ) → v ≡ k → x ≡ k → 5 ≤ k → k < 10 → compute_in x w ≡ kind_at op w
  op_compute_at x k z a g h = ap (λ (o : ℕ). compute_in o w) (a ∙ sym z) ∙ op_compute (omega arith) (omega arith)

  pub op_compute_immediate_at : (x k : ℕ) → v ≡ k → x ≡ k - 5 → 10 ≤ k → k < 15 → compute_immediate_in x w ≡ kind_at op w
  op_compute_immediate_at x k z a g h =
      ap (λ (o : ℕ). compute_immediate_in o w) (a ∙ ap (λ (o : ℕ). o - 5) (sym z)) ∙ op_compute_immediate (omega arith) (omega arith)

  pub op_compute_immediate_of : (k : ℕ) → v ≡ k → 10 ≤ k → k < 15 → compute_immediate_in (v - 5) w ≡ kind_at op w
  op_compute_immediate_of k z g h = op_compute_immediate (omega arith) (omega arith)

-- all below the opcode, and all between the opcode and the low half, by their parts
below_opcode : (w : ℕ) → w % 2 ^ 28 ≡ rd_of w * 2 ^ 24 + rs_of w * 2 ^ 20 + rt_of w * 2 ^ 16 + low_of w
below_opcode w = omega (arith, mod-pow-add w 4 24, mod-pow-add w 4 20, mod-pow-add w 4 16)

above_low : (w : ℕ) → w / 2 ^ 16 % 2 ^ 12 ≡ rd_of w * 2 ^ 8 + rs_of w * 2 ^ 4 + rt_of w
above_low w =
    let x : ℕ = w / 2 ^ 16 in
    let rd_at : x / 2 ^ 8 ≡ w / 2 ^ 24 = shr-shr w 16 8 in
    let rs_at : x / 2 ^ 4 ≡ w / 2 ^ 20 = shr-shr w 16 4 in
    omega (arith, mod-pow-add x 4 8, mod-pow-add x 4 4, ap (λ (y : ℕ). y % 16) rd_at, ap (λ (y : ℕ). y % 16) rs_at)

back : (op : ℕ) → op ≡ op + 5 - 5
back op = omega arith

-- the kind of a word by its parts
module _ (w rd rs rt low : ℕ) where
  pub kind_halt : Parts w 0 0 0 0 0 → kind_of w ≡ halt
  unfolding whole
  kind_halt p = sym (is_equal (w % 2 ^ 28) 0 _ _ _ (omega (arith, below_opcode w)) refl ∙ op_halt 0 (opcode_of w) w (sym p.opcode) refl)

  pub kind_jmp : Parts w 1 0 0 0 low → kind_of w ≡ jmp low
  unfolding whole
  kind_jmp p =
      sym
      (is_equal (w / 2 ^ 16 % 2 ^ 12) 0 _ _ _ (omega (arith, above_low w)) (ap jmp (sym p.low_part))
      ∙ op_jmp 1 (opcode_of w) w (sym p.opcode) refl)

  pub kind_bnz : Parts w 2 0 rs 0 low → kind_of w ≡ bnz rs low
  unfolding whole
  kind_bnz p =
      sym
      (is_equal (rd_of w + rt_of w) 0 (bnz rs low) _ _ (omega arith) (cc (p.rs_part, p.low_part))
      ∙ op_bnz 2 (opcode_of w) w (sym p.opcode) refl)

  pub kind_load : Parts w 3 rd rs 0 low → kind_of w ≡ load rd rs low
  unfolding whole
  kind_load p =
      sym
      (is_equal (rt_of w) 0 (load rd rs low) _ _ p.rt_part (cc (p.rd_part, p.rs_part, p.low_part))
      ∙ op_load 3 (opcode_of w) w (sym p.opcode) refl)

  pub kind_store : Parts w 4 rd rs 0 low → kind_of w ≡ store rd rs low
  unfolding whole
  kind_store p =
      sym
      (is_equal (rt_of w) 0 (store rd rs low) _ _ p.rt_part (cc (p.rd_part, p.rs_part, p.low_part))
      ∙ op_store 4 (opcode_of w) w (sym p.opcode) refl)

  module _ (op : ℕ) (from : 5 ≤ op) (to : op < 10) where
    pub kind_compute : Parts w op rd rs rt 0 → kind_of w ≡ compute op rd rs rt
    unfolding whole
    kind_compute p =
        sym
        (is_equal (low_of w) 0 (compute op rd rs rt) _ _ p.low_part (cc (p.rd_part, p.rs_part, p.rt_part))
        ∙ op_compute op (opcode_of w) w (sym p.opcode) from to)

    pub kind_compute_immediate : Parts w (op + 5) rd rs 0 low → kind_of w ≡ compute_immediate op rd rs low
    unfolding whole
    kind_compute_immediate p =
        sym
        (is_equal (rt_of w) 0 (compute_immediate op rd rs low) _ _ p.rt_part (cc (p.rd_part, p.rs_part, p.low_part))
        ∙ ap (λ (o : ℕ). compute_immediate_in o w) (back op)
        ∙ op_compute_immediate (op + 5) (opcode_of w) w (sym p.opcode) (omega arith) (omega arith))

-- the kind comes back from its word
pub kind_back : (k : Kind) → InRange k → kind_of (word_of k) ≡ k
unfolding InRange word_of kind_at pick
kind_back halt h = kind_halt _ 0 0 0 0 (split_joined 0 0 0 0 0 (lit< tt) (lit< tt) (lit< tt) (lit< tt) (lit< tt))
kind_back (jmp target) h = kind_jmp _ 0 0 0 target (split_joined 1 0 0 0 target (lit< tt) (lit< tt) (lit< tt) (lit< tt) h)
kind_back (bnz rs target) h = kind_bnz _ 0 rs 0 target (split_joined 2 0 rs 0 target (lit< tt) (lit< tt) h.0 (lit< tt) h.1)
kind_back (load rd rs offset) h = kind_load _ rd rs 0 offset (split_joined 3 rd rs 0 offset (lit< tt) h.0 h.1 (lit< tt) h.2)
kind_back (store rd rs offset) h = kind_store _ rd rs 0 offset (split_joined 4 rd rs 0 offset (lit< tt) h.0 h.1 (lit< tt) h.2)
kind_back (compute op rd rs rt) h =
    kind_compute _ rd rs rt 0 op h.0 h.1 (split_joined op rd rs rt 0 (omega arith) h.2 h.3 h.4 (lit< tt))
kind_back (compute_immediate op rd rs i) h =
    kind_compute_immediate _ rd rs 0 i op h.0 h.1 (split_joined (op + 5) rd rs 0 i (omega arith) h.2 h.3 (lit< tt) h.4)
kind_back bad h = refl

-- a word put together from parts in range has 32 bits
pub joined_fits : (op rd rs rt low : ℕ) → op < 16 → rd < 16 → rs < 16 → rt < 16 → low < 2 ^ 16 → joined op rd rs rt low < 2 ^ 32
joined_fits op rd rs rt low ho hd hs ht hl = omega arith
