-- `read_numbers` reads a packet: the whole reading is what is left of it from each number on.
use Prim.Native.Nat.{◌+◌, ◌-◌, ◌≤◌}
use mathlib.Core.Path.{◌≡◌}
use lib.ListN.{length}
use Rattle.listing.specs.Due.{due_of}
use Rattle.listing.specs.Packet.{packet_from}
use Rattle.listing.proofs.reading.read_numbers.Given as goal

abbrev pub invariant-loop-due : goal.invariant-loop-due
invariant-loop-due l =
    (packet_from (length l.packet + 1) l.packet (due_of l.initial.due) l.initial.at l.initial.numbers l.initial.count ≡ packet_from (length l.packet + 1 - l.count) l.packet (due_of l.due) l.at l.numbers l.count)
    × (l.count ≤ l.at)
    × (l.at ≤ length l.packet)
    × (length l.numbers ≡ length l.initial.numbers)

abbrev pub decreases-loop-due : goal.decreases-loop-due
decreases-loop-due l = length l.packet - l.at
