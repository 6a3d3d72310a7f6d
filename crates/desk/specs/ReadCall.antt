-- vans_read: what it answers, and what the buffer for the numbers holds afterwards, for all bytes.
use Rattle.std.specs.Prelude.{ℕ, ◌*◌, ◌/◌, List, ◌++◌, length, drop, ltb}
use Rattle.choice.specs.Pick.{pick}
use Rattle.listing.specs.Taken.{Taken}
use Rattle.listing.specs.Taken.{Listing, Fault, NoRoom}
use Rattle.listing.specs.Packet.{numbers_in, taken_of}
use Rattle.service.specs.Numbers.{DOES_NOT_FIT}
use Rattle.desk.specs.Bytes.{bytes_of}
use Rattle.desk.specs.Answer.{answer_of}
use Rattle.desk.specs.PacketCall.{PacketCall, packet_call}

-- n numbers handed over in bytes, in front of the buffer, where they fit; else 35 with the words needed
unfoldable pub handed_of : List ℕ → ℕ → List ℕ → PacketCall
handed_of ns n numbers =
    pick (ltb (length numbers / 4) n) (packet_call (answer_of DOES_NOT_FIT n 0) numbers)
    (packet_call (answer_of 0 0 n) (bytes_of ns ++ drop (n * 4) numbers))

-- by what the packet is: a fault leaves the buffer as it was. taken_of is never NoRoom; were it, that would be a refusal
unfoldable pub by_taken : Taken → List ℕ → List ℕ → PacketCall
by_taken (Listing n) ns numbers = handed_of ns n numbers
by_taken (Fault k place) ns numbers = packet_call (answer_of k place 0) numbers
by_taken NoRoom ns numbers = packet_call (answer_of DOES_NOT_FIT 0 0) numbers

-- the call
unfoldable pub vans_read_of : List ℕ → List ℕ → PacketCall
vans_read_of packet numbers = by_taken (taken_of packet) (numbers_in packet) numbers
