-- The calls on packets by their task, for the code that makes a room for each: 0 reads, 1 checks, 2 erases, any other is the desk call. A task leaves the buffers that it is not lent as they are.
use Rattle.std.specs.Prelude.{ℕ, List, length, eqb, leb}
use Rattle.choice.specs.Pick.{pick}
use Rattle.listing.specs.Limits.{BYTES}
use Rattle.listing.specs.Packet.{numbers_in}
use Rattle.checker.specs.Checked.{Checked, Accepted}
use Rattle.checker.specs.Check.{check_of}
use Rattle.desk.specs.PacketCall.{packet_call}
use Rattle.desk.specs.LentCall.{LentCall, beside}
use Rattle.desk.specs.ReadCall.{vans_read_of}
use Rattle.desk.specs.CheckCall.{answer_by}
use Rattle.desk.specs.EraseCall.{erase_by}
use Rattle.desk.specs.VansDesk.{vans_desk_by}

-- the bytes of packets for which there is a room of their own; they decide what a call costs, and no answer
abbrev pub SMALL_PACKET : ℕ
SMALL_PACKET = 128

abbrev pub SHORT_PACKET : ℕ
SHORT_PACKET = 1024

abbrev pub MIDDLE_PACKET : ℕ
MIDDLE_PACKET = 4096

abbrev pub LONG_PACKET : ℕ
LONG_PACKET = 20480

-- and the room that a packet of so many bytes has: the smallest that it fits
unfoldable pub packet_room : ℕ → ℕ
packet_room bytes =
    pick (leb bytes SMALL_PACKET) SMALL_PACKET
    (pick (leb bytes SHORT_PACKET) SHORT_PACKET (pick (leb bytes MIDDLE_PACKET) MIDDLE_PACKET (pick (leb bytes LONG_PACKET) LONG_PACKET BYTES)))

-- by what the checker says of a packet, and its numbers
unfoldable pub checked_task : ℕ → Checked → List ℕ → List ℕ → List ℕ → List ℕ → List ℕ → ℕ → LentCall
checked_task task x ns out heap blocks regs budget =
    pick (eqb task 1) (beside (packet_call (answer_by x) out) heap regs)
    (pick (eqb task 2) (beside (erase_by x ns out) heap regs) (vans_desk_by x ns out heap blocks regs budget))

-- where it is accepted
abbrev pub accepted_task : ℕ → List ℕ → List ℕ → List ℕ → List ℕ → List ℕ → ℕ → LentCall
accepted_task task ns out heap blocks regs budget = checked_task task (Accepted (length ns)) ns out heap blocks regs budget

unfoldable pub task_of : ℕ → List ℕ → List ℕ → List ℕ → List ℕ → List ℕ → ℕ → LentCall
task_of task packet out heap blocks regs budget =
    pick (eqb task 0) (beside (vans_read_of packet out) heap regs) (checked_task task (check_of packet) (numbers_in packet) out heap blocks regs budget)
