-- 01, "Erased code and the machine": how a code word is laid out, and the kinds of code word that there are.
use Rattle.std.specs.Prelude.{ℕ, ◌+◌, ◌-◌, ◌*◌, ◌/◌, ◌%◌, ◌^◌, ◌<◌, ◌≤◌, ltb, eqb}
use Rattle.choice.specs.Pick.{pick}

-- the four bits of a word from bit `at` up: the opcode at 28, rd at 24, rs at 20, rt at 16
abbrev pub part_of : ℕ → ℕ → ℕ
part_of w at = w / 2 ^ at % 16

abbrev pub opcode_of : ℕ → ℕ
opcode_of w = part_of w 28

abbrev pub rd_of : ℕ → ℕ
rd_of w = part_of w 24

abbrev pub rs_of : ℕ → ℕ
rs_of w = part_of w 20

abbrev pub rt_of : ℕ → ℕ
rt_of w = part_of w 16

-- bits 15 to 0: a target, an offset or an immediate
abbrev pub low_of : ℕ → ℕ
low_of w = w % 2 ^ 16

-- a code word by what it asks for. The operations go by their item numbers 5 to 9, with an immediate too
pub data Kind : Type 0 where
  halt : Kind
  jmp : (target : ℕ) → Kind
  bnz : (rs target : ℕ) → Kind
  load : (rd rs offset : ℕ) → Kind
  store : (rd rs offset : ℕ) → Kind
  compute : (op rd rs rt : ℕ) → Kind
  compute_immediate : (op rd rs i : ℕ) → Kind
  bad : Kind

-- a kind that leaves `unused` unused, a number that is 0 where all its unused parts are; else the word is bad
unfoldable pub whole : ℕ → Kind → Kind
whole unused k = pick (eqb unused 0) k bad

-- each kind with the word's parts in their places, and what it leaves unused: all below the opcode, all between opcode and low half, or single parts
abbrev pub halt_in : ℕ → Kind
halt_in w = whole (w % 2 ^ 28) halt

abbrev pub jmp_in : ℕ → Kind
jmp_in w = whole (w / 2 ^ 16 % 2 ^ 12) (jmp (low_of w))

abbrev pub bnz_in : ℕ → Kind
bnz_in w = whole (rd_of w + rt_of w) (bnz (rs_of w) (low_of w))

abbrev pub load_in : ℕ → Kind
load_in w = whole (rt_of w) (load (rd_of w) (rs_of w) (low_of w))

abbrev pub store_in : ℕ → Kind
store_in w = whole (rt_of w) (store (rd_of w) (rs_of w) (low_of w))

abbrev pub compute_in : ℕ → ℕ → Kind
compute_in op w = whole (low_of w) (compute op (rd_of w) (rs_of w) (rt_of w))

abbrev pub compute_immediate_in : ℕ → ℕ → Kind
compute_immediate_in op w = whole (rt_of w) (compute_immediate op (rd_of w) (rs_of w) (low_of w))

-- the kind of a word, by its opcode; 10 to 14 are 5 to 9 with an immediate, and 15 is none
unfoldable pub kind_at : ℕ → ℕ → Kind
kind_at op w =
    pick (eqb op 0) (halt_in w)
    (pick (eqb op 1) (jmp_in w)
    (pick (eqb op 2) (bnz_in w)
    (pick (eqb op 3) (load_in w)
    (pick (eqb op 4) (store_in w)
    (pick (ltb op 10) (compute_in op w)
    (pick (ltb op 15) (compute_immediate_in (op - 5) w) bad))))))

abbrev pub kind_of : ℕ → Kind
kind_of w = kind_at (opcode_of w) w

-- a word put together from its parts
abbrev pub joined : ℕ → ℕ → ℕ → ℕ → ℕ → ℕ
joined op rd rs rt low = op * 2 ^ 28 + rd * 2 ^ 24 + rs * 2 ^ 20 + rt * 2 ^ 16 + low

-- the word of a kind; a bad word is any of opcode 15
unfoldable pub word_of : Kind → ℕ
word_of halt = joined 0 0 0 0 0
word_of (jmp target) = joined 1 0 0 0 target
word_of (bnz rs target) = joined 2 0 rs 0 target
word_of (load rd rs offset) = joined 3 rd rs 0 offset
word_of (store rd rs offset) = joined 4 rd rs 0 offset
word_of (compute op rd rs rt) = joined op rd rs rt 0
word_of (compute_immediate op rd rs i) = joined (op + 5) rd rs 0 i
word_of bad = joined 15 0 0 0 0

-- the parts of a kind that a word has room for: registers below 16, a low half below 2 ^ 16, an operation from 5 to 9
unfoldable pub InRange : Kind → Type 0
InRange halt = Unit {0}
InRange (jmp target) = target < 2 ^ 16
InRange (bnz rs target) = (rs < 16) × (target < 2 ^ 16)
InRange (load rd rs offset) = (rd < 16) × (rs < 16) × (offset < 2 ^ 16)
InRange (store rd rs offset) = (rd < 16) × (rs < 16) × (offset < 2 ^ 16)
InRange (compute op rd rs rt) = (5 ≤ op) × (op < 10) × (rd < 16) × (rs < 16) × (rt < 16)
InRange (compute_immediate op rd rs i) = (5 ≤ op) × (op < 10) × (rd < 16) × (rs < 16) × (i < 2 ^ 16)
InRange bad = Unit {0}
