-- 01, "Bench pieces": K1 to K12 as one table under one statement. `Holds` says what a piece claims, of the same definitions that the contracts name; `pieces` is the table, in 01's order. That each piece holds is proved in proofs/Pieces.antt.
use Rattle.std.specs.Prelude.{ℕ, ◌+◌, ◌-◌, ◌≡◌, Bool, true, false, set, take, drop, replicate}
use mathlib.Core.List.{List, [], ◌∷◌, ◌++◌}
use Rattle.levels.specs.Sets as levels
use Rattle.machine.specs.Numbers.{HALTED, RUNNING}
use Rattle.machine.specs.Arithmetic.{compute_of}
use Rattle.machine.specs.Step.{machine_at, step_of}
use Rattle.machine.specs.Run.{outcome_at, run_of}
use Rattle.listing.specs.declared.items.Item.{Item}
use Rattle.listing.specs.declared.items.Item.TheVariants.{Halt, Jmp, Bnz, Load, ComputeImmediate, Cpush, Cjmp, Label}
use Rattle.listing.specs.Listing.{Register, LabelContext, Listing}
use Rattle.listing.specs.Packet.{numbers_in}
use Rattle.listing.specs.Bytes.{packet_bytes}
use Rattle.checker.specs.Checked.{Checked, Accepted, Refused}
use Rattle.checker.specs.Check.{check_of}
use Rattle.eraser.specs.Erase.{word_for}
use Rattle.service.specs.Desk.{code_for}

-- what a bench piece may claim
pub data Piece : Type 0 where
  -- the bytes of a listing
  packed : (l : Listing) (packet : List ℕ) → Piece
  -- the checker's answer to a packet
  checked : (packet : List ℕ) (answer : Checked) → Piece
  -- the erased code of a packet
  erased : (packet code : List ℕ) → Piece
  -- a run of a packet's code, with no heap, halts within a budget: its registers before and after, where, and its count
  halted : (packet : List ℕ) (budget : ℕ) (before after : List ℕ) (pc count : ℕ) → Piece
  -- one level is at or below another, or not; the join of two
  ordered : (a b : ℕ) (is : Bool) → Piece
  joined : (a b level : ℕ) → Piece
  -- an operation on two words, by its item number
  computed : (op a b word : ℕ) → Piece
  -- a step over the word of an item that goes on: registers before and after
  stepped : (i : Item) (before after : List ℕ) → Piece

-- that a piece's claim is so
unfoldable pub Holds : Piece → Type 0
Holds (packed l packet) = packet_bytes l ≡ packet
Holds (checked packet answer) = check_of packet ≡ answer
Holds (erased packet code) = code_for (numbers_in packet) ≡ code
Holds (halted packet budget before after pc count) = run_of (code_for (numbers_in packet)) [] before budget ≡ outcome_at (machine_at after pc HALTED []) count
Holds (ordered a b is) = levels.below_of a b ≡ is
Holds (joined a b level) = levels.join_of a b ≡ level
Holds (computed op a b word) = compute_of op a b ≡ word
Holds (stepped i before after) = step_of (word_for [] i ∷ []) (machine_at before 0 RUNNING []) ≡ machine_at after 1 RUNNING []

-- a register that a label lists, an integer at a level; a label's context; an immediate as the packet has it
abbrev integer : ℕ → ℕ → Register
integer index level = record { index = index; kind = 0; level = level }

abbrev context : ℕ → List ℕ → List Register → LabelContext
context level stack registers = record { level = level; stack = stack; registers = registers }

abbrev immediate : ℕ → ℕ
immediate i = i + 32768

-- document 000's example: labels 0, 1, 2 for its L1, L2, L3, and ⊤ as 255, which is label 1's pc level unless it says otherwise
abbrev example_labels : ℕ → List LabelContext
example_labels level =
    context 0 [] (integer 1 255 ∷ integer 2 255 ∷ integer 3 0 ∷ [])
    ∷ context level (2 ∷ []) (integer 2 255 ∷ integer 3 0 ∷ [])
    ∷ context 0 [] (integer 3 0 ∷ [])
    ∷ []

abbrev example_items : List Item
example_items =
    Label 0
    ∷ Cpush 2
    ∷ Bnz 1 1
    ∷ ComputeImmediate 10 2 0 (immediate 1)
    ∷ Cjmp 2
    ∷ Label 1
    ∷ ComputeImmediate 10 2 0 (immediate 2)
    ∷ Cjmp 2
    ∷ Label 2
    ∷ ComputeImmediate 10 3 0 (immediate 3)
    ∷ Halt
    ∷ []

abbrev listing_of : List LabelContext → List Item → Listing
listing_of labels items = record { shapes = []; labels = labels; items = items }

abbrev example : Listing
example = listing_of (example_labels 255) example_items

-- K1's 70 bytes
abbrev K1 : List ℕ
K1 =
    0x01 ∷ 0x00 ∷ 0x03 ∷ 0x00 ∷ 0x00 ∷ 0x03 ∷ 0x01 ∷ 0x00 ∷ 0xFF ∷ 0x01 ∷ 0x02 ∷ 0x00 ∷ 0xFF ∷ 0x01 ∷ 0x03 ∷ 0x00 ∷ 0x00 ∷ 0xFF ∷ 0x01 ∷ 0x01 ∷ 0x02 ∷ 0x02 ∷ 0x02 ∷ 0x00
    ∷ 0xFF ∷ 0x01 ∷ 0x03 ∷ 0x00 ∷ 0x00 ∷ 0x00 ∷ 0x00 ∷ 0x01 ∷ 0x03 ∷ 0x00 ∷ 0x00 ∷ 0x0B ∷ 0x11 ∷ 0x00 ∷ 0x0F ∷ 0x02 ∷ 0x02 ∷ 0x01 ∷ 0x01 ∷ 0x0A ∷ 0x02 ∷ 0x00 ∷ 0x81 ∷ 0x80
    ∷ 0x02 ∷ 0x10 ∷ 0x02 ∷ 0x11 ∷ 0x01 ∷ 0x0A ∷ 0x02 ∷ 0x00 ∷ 0x82 ∷ 0x80 ∷ 0x02 ∷ 0x10 ∷ 0x02 ∷ 0x11 ∷ 0x02 ∷ 0x0A ∷ 0x03 ∷ 0x00 ∷ 0x83 ∷ 0x80 ∷ 0x02 ∷ 0x00
    ∷ []

-- K2, K3 and K6 are the packets of the example with one item changed, K4 with one removed, K5 with label 1's pc level 0
abbrev with_item : ℕ → Item → List ℕ
with_item place i = packet_bytes (listing_of (example_labels 255) (set example_items place i))

abbrev K2 : List ℕ
K2 = with_item 6 (ComputeImmediate 10 3 0 (immediate 2))

abbrev K3 : List ℕ
K3 = with_item 4 (Jmp 2)

abbrev K4 : List ℕ
K4 = packet_bytes (listing_of (example_labels 255) (take 1 example_items ++ drop 2 example_items))

abbrev K5 : List ℕ
K5 = packet_bytes (listing_of (example_labels 0) example_items)

abbrev K6 : List ℕ
K6 = with_item 4 Halt

abbrev K7 : List ℕ
K7 = []

abbrev K8 : List ℕ
K8 = 0x80 ∷ 0x00 ∷ []

-- an integer field at 0; r1 a pointer to it at 1, r2 an integer at 1: label 0; load r2, r1, 0
abbrev K12 : List ℕ
K12 =
    packet_bytes
    (record {
      shapes = (record { kind = 0; level = 0 } ∷ []) ∷ [];
      labels = context 0 [] (record { index = 1; kind = 1; level = 1 } ∷ integer 2 1 ∷ []) ∷ [];
      items = Label 0 ∷ Load 2 1 0 ∷ [];
    })

-- sixteen registers by their first four, the others 0
abbrev registers : ℕ → ℕ → ℕ → ℕ → List ℕ
registers r0 r1 r2 r3 = r0 ∷ r1 ∷ r2 ∷ r3 ∷ replicate 12 0

-- K1 to K12. An accepted packet is answered with how many numbers it has, a refused one with number and place
unfoldable pub pieces : List Piece
pieces =
    packed example K1
    ∷ checked K1 (Accepted 60)
    ∷ erased K1 (0x20100003 ∷ 0xA2000001 ∷ 0x10000005 ∷ 0xA2000002 ∷ 0x10000005 ∷ 0xA3000003 ∷ 0x00000000 ∷ [])
    ∷ halted K1 1000 (registers 0 0 0 0) (registers 0 0 1 3) 6 5
    ∷ halted K1 1000 (registers 0 9 0 0) (registers 0 9 2 3) 6 5
    ∷ checked K2 (Refused 15 6)
    ∷ checked K3 (Refused 17 4)
    ∷ checked K4 (Refused 17 1)
    ∷ checked K5 (Refused 15 2)
    ∷ checked K6 (Refused 17 4)
    ∷ checked K7 (Refused 1 0)
    ∷ checked K8 (Refused 2 0)
    -- K9
    ∷ ordered 3 7 true
    ∷ ordered 3 5 false
    ∷ joined 3 5 7
    -- K10: slt is 9
    ∷ computed 9 0x80000000 0 1
    ∷ computed 9 0x7FFFFFFF 0x80000000 0
    -- K11: r1 becomes r0 plus immediate −1, which the packet has as 32,767; r0 reads as 0 whatever the state holds
    ∷ stepped (ComputeImmediate 10 1 0 (32768 - 1)) (registers 7 0 0 0) (registers 7 0xFFFFFFFF 0 0)
    ∷ checked K12 (Refused 15 1)
    ∷ []
