-- The promise of the desk call (`desk_of` in service/specs/Desk.antt), for any packet, block table, heap, registers and budget: an accepted routine never traps, and tells an observer nothing that he may not see.
-- To believe it, read this file, specs/Promise.antt (the words that it uses), and what these name, all of it in specs/: Observer (what an observer sees), Halting (the halting context), Steps (the steps of a run), Desk, and what these name in turn. Sound says it over any order of levels; here levels are sets of compartments. K1 is an instance.
use Rattle.std.specs.Prelude.{ℕ, ◌⊎◌, List}
use Rattle.levels.specs.Sets.{below_of, join_of}
use Rattle.listing.specs.Packet.{numbers_in}
use Rattle.start.specs.Start.{rows_of}
use Rattle.service.specs.Desk.{code_for}
use Rattle.sound.specs.Halting.{HaltsAt}
use Rattle.sound.specs.Observer.{Frame}
use Rattle.sound.specs.Steps.{Steps}
use Rattle.sound.specs.Accepted.{packet_listing}
use Rattle.sound.proofs.Served as served
use Rattle.sound.specs.Promise.{Lent, call_of, Served, Halts, UsesBudget, begun, left, StartAlike, EndAlike}

module _ (packet blocks : List ℕ) where
  -- 1. It never traps
  pub never_traps : (x : Lent) → Served packet blocks x → UsesBudget packet blocks x ⊎ Halts packet blocks x
  never_traps x s = served.never_traps packet x.code x.heap blocks x.regs x.budget s.numbers s.accepted s.passes s.sixteen

  -- 2. It tells nothing: two calls that start alike for an observer, each with a heap of its own length and a budget of its own, end alike for him where both halt
  pub tells_nothing : (o : ℕ) (x y : Lent) → Served packet blocks x → Served packet blocks y → StartAlike packet blocks o x y
      → Halts packet blocks x → Halts packet blocks y → EndAlike packet blocks o x y
  tells_nothing o x y s t =
      served.tells_nothing packet blocks x.code x.heap x.regs x.budget s.numbers y.code y.heap y.regs y.budget t.numbers
      s.accepted s.passes s.sixteen t.accepted t.passes t.sixteen o

  -- where it halts there is such a context: that of the halt item whose address is the pc
  pub halts_at_halt : (x : Lent) → Served packet blocks x → Halts packet blocks x → HaltsAt below_of join_of (packet_listing packet) (left packet blocks x).state.pc
  halts_at_halt x s = served.halts_at_halt packet x.code x.heap blocks x.regs x.budget s.numbers s.accepted s.passes s.sixteen

  -- 3. Words outside the blocks keep their values, halted or not, and the heap its length
  pub keeps_outside : (x : Lent) → Served packet blocks x → Frame (packet_listing packet).shapes (rows_of blocks) x.heap (call_of packet blocks x).heap
  keeps_outside x s = served.keeps_outside packet x.code x.heap blocks x.regs x.budget s.numbers s.accepted s.passes s.sixteen

  -- 4. Each step of its run is one of 01's table, and its count is their number
  pub counts_steps : (x : Lent) → Served packet blocks x → Steps (code_for (numbers_in packet)) x.budget (begun packet blocks x) (call_of packet blocks x).answer.count (left packet blocks x)
  counts_steps x s = served.counts_steps packet x.code x.heap blocks x.regs x.budget s.numbers s.accepted s.passes s.sixteen
