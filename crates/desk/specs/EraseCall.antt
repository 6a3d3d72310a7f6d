-- vans_erase: what it answers, and what the buffer for the code holds afterwards, for all bytes. The order is packet, items, 35 by whole words, then 30 for a ragged buffer.
use Rattle.std.specs.Prelude.{ℕ, ◌*◌, ◌/◌, ◌%◌, List, ◌++◌, length, drop, ltb, eqb}
use Rattle.choice.specs.Pick.{pick}
use Rattle.machine.specs.Numbers.{BAD_SIZE}
use Rattle.listing.specs.declared.items.Item.{Item}
use Rattle.listing.specs.Packet.{numbers_in}
use Rattle.listing.specs.Parts.{items_in}
use Rattle.checker.specs.Checked.{Checked, Accepted, Refused, NoRoom}
use Rattle.checker.specs.Check.{check_of}
use Rattle.eraser.specs.Erase.{addresses_of, code_of}
use Rattle.service.specs.Numbers.{DOES_NOT_FIT}
use Rattle.desk.specs.Bytes.{bytes_of}
use Rattle.desk.specs.Answer.{answer_of}
use Rattle.desk.specs.PacketCall.{PacketCall, packet_call}
use Rattle.desk.specs.CheckCall.{answer_by}

-- a code in bytes, in front of a buffer of whole words that it fits; bytes past it keep their values
unfoldable pub code_out : List ℕ → List ℕ → PacketCall
code_out code out =
    pick (ltb (length out / 4) (length code)) (packet_call (answer_of DOES_NOT_FIT (length code) 0) out)
    (pick (eqb (length out % 4) 0) (packet_call (answer_of 0 0 (length code)) (bytes_of code ++ drop (length code * 4) out))
    (packet_call (answer_of BAD_SIZE 0 0) out))

-- the code of items
abbrev pub erased_out : List Item → List ℕ → PacketCall
erased_out items out = code_out (code_of (addresses_of items) items) out

-- by what the packet is: a refusal leaves the buffer as it was
unfoldable pub erase_by : Checked → List ℕ → List ℕ → PacketCall
erase_by (Accepted n) ns out = erased_out (items_in ns) out
erase_by (Refused k place) ns out = packet_call (answer_by (Refused k place)) out
erase_by NoRoom ns out = packet_call (answer_by NoRoom) out

-- the call
unfoldable pub vans_erase_of : List ℕ → List ℕ → PacketCall
vans_erase_of packet out = erase_by (check_of packet) (numbers_in packet) out
