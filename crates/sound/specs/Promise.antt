-- What the promise of the desk call (`desk_of` in service/specs/Desk.antt) speaks of, for any packet, block table, heap, registers and budget: a call that is not refused, how it ends, and when two calls start and end alike for an observer. The promise itself is proofs/Promise.antt; read that first.
use Rattle.std.specs.Prelude.{ℕ, ◌≡◌, true, List, length}
use Rattle.levels.specs.SetLaws.{sets}
use Rattle.machine.specs.Numbers.{HALTED, RUNNING}
use Rattle.machine.specs.Step.{Machine, machine_at}
use Rattle.listing.specs.Packet.{numbers_in}
use Rattle.checker.specs.Checked.{Accepted}
use Rattle.checker.specs.Check.{check_of}
use Rattle.start.specs.Start.{rows_of, first_listed}
use Rattle.service.specs.Desk.{later_fault, ran_of, DeskCall, desk_of}
use Rattle.sound.specs.Observer.{StartsAgree, EndsAgree}
use Rattle.sound.specs.Accepted.{packet_listing}

-- what a call is lent besides its packet and its block table, and its budget
pub record Lent : Type 0 where
  pub code : List ℕ
  pub heap : List ℕ
  pub regs : List ℕ
  pub budget : ℕ

module _ (packet blocks : List ℕ) where
  -- the call
  abbrev pub call_of : Lent → DeskCall
  call_of x = desk_of packet x.code x.heap blocks x.regs x.budget

  -- it is not refused: the checker accepts the packet, and sizes, budget and start pass. There are sixteen registers
  pub record Served (x : Lent) : Type 0 where
    pub numbers : ℕ
    pub accepted : check_of packet ≡ Accepted numbers
    pub passes : (later_fault (numbers_in packet) (length x.code) true x.heap blocks x.regs x.budget).number ≡ 0
    pub sixteen : length x.regs ≡ 16

  -- its answer is "halted", or "budget used"
  abbrev pub Halts : Lent → Type 0
  Halts x = (call_of x).answer.number ≡ HALTED

  abbrev pub UsesBudget : Lent → Type 0
  UsesBudget x = (call_of x).answer.number ≡ RUNNING

  -- the machine that its run begins with; and the one that it leaves: registers, status and heap as the call returns them, and the pc at which its run ends
  abbrev pub begun : Lent → Machine
  begun x = machine_at x.regs 0 RUNNING x.heap

  abbrev pub left : Lent → Machine
  left x = machine_at (call_of x).answer.regs (ran_of (numbers_in packet) x.heap x.regs x.budget).machine.state.pc (call_of x).answer.number (call_of x).heap

  -- two calls start alike for an observer at level o: block words, and registers that the first label lists, at levels at or below his are equal
  abbrev pub StartAlike : ℕ → Lent → Lent → Type 0
  StartAlike o x y = StartsAgree sets o (packet_listing packet).shapes (rows_of blocks) (first_listed (numbers_in packet)) x.regs x.heap y.regs y.heap

  -- and end alike: block words at levels at or below his are equal, and so is each register that both halting contexts list at such a level
  abbrev pub EndAlike : ℕ → Lent → Lent → Type 0
  EndAlike o x y = EndsAgree sets o (packet_listing packet) (rows_of blocks) (left x) (left y)
