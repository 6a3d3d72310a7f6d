-- 01, "The packet" and "Refusal numbers": how a whole packet is read. 6 first; then number by number, left to right, each number's faults in the order 1, 2, 3 or 4; 5 last.
use Rattle.std.specs.Prelude.{ℕ, zero, suc, ◌+◌, List, [], ◌∷◌, length, set, ltb}
use Rattle.choice.specs.Pick.{pick}
use Rattle.number.specs.Found.{Found}
use Rattle.number.specs.Found.{Number, Ended, Malformed}
use Rattle.number.specs.Number.{read_of}
use Rattle.listing.specs.declared.grammar.Wanted.{Wanted}
use Rattle.listing.specs.declared.grammar.Wanted.TheVariants.{Edition}
use Rattle.listing.specs.Due.{Due}
use Rattle.listing.specs.Due.{Next, End, Refused}
use Rattle.listing.specs.Got.{Got}
use Rattle.listing.specs.Got.{Took, Bad}
use Rattle.listing.specs.Taken.{Taken}
use Rattle.listing.specs.Taken.{Listing, Fault, NoRoom}
use Rattle.listing.specs.Limits.{BYTES, ENDED, MALFORMED, LEFT_OVER, TOO_LONG}
use Rattle.listing.specs.Grammar.{next_of}

-- what reading answers, and the words of the buffer that the numbers go to
pub record Reading : Type 0 where
  pub taken : Taken
  pub numbers : List ℕ

abbrev pub reading_of : Taken → List ℕ → Reading
reading_of t numbers = record { taken = t; numbers = numbers }

-- a number v that stands at a place, by what is due after it: 3 and 4 are faults at the number's first byte
unfoldable pub due_then : Due → ℕ → ℕ → ℕ → Got
due_then (Next w) v at behind = Took v behind (Next w)
due_then End v at behind = Took v behind End
due_then (Refused k) v at behind = Bad k at

-- what is found at a place where w is wanted: 1 is a fault at the packet's length, 2 at its own place
unfoldable pub found_then : Found → ℕ → ℕ → Wanted → Got
found_then (Number v behind) len at w = due_then (next_of w v) v at behind
found_then Ended len at w = Bad ENDED len
found_then (Malformed place) len at w = Bad MALFORMED place

abbrev pub got_of : List ℕ → ℕ → Wanted → Got
got_of bytes at w = found_then (read_of bytes at) (length bytes) at w

-- where nothing more is due, bytes left over are a fault
unfoldable pub end_of : ℕ → ℕ → ℕ → Taken
end_of len at count = pick (ltb at len) (Fault LEFT_OVER at) (Listing count)

-- a number that was got is stored, and reading goes on behind it; a fault ends it
unfoldable pub stored_then : Got → List ℕ → ℕ → (Due → ℕ → List ℕ → ℕ → Reading) → Reading
stored_then (Took v behind due) numbers count on = on due behind (set numbers count v) (count + 1)
stored_then (Bad k place) numbers count on = reading_of (Fault k place) numbers

-- reading from a place on, with so many numbers taken; each number takes a byte, so a packet has no more numbers than bytes, and `fuel` never ends first
unfoldable pub packet_from : ℕ → List ℕ → Due → ℕ → List ℕ → ℕ → Reading
packet_from zero bytes due at numbers count = reading_of (Fault ENDED (length bytes)) numbers
packet_from (suc fuel) bytes (Next w) at numbers count = stored_then (got_of bytes at w) numbers count (packet_from fuel bytes)
packet_from (suc fuel) bytes End at numbers count = reading_of (end_of (length bytes) at count) numbers
packet_from (suc fuel) bytes (Refused k) at numbers count = reading_of (Fault k at) numbers

-- a packet, read into a buffer
unfoldable pub packet_of : List ℕ → List ℕ → Reading
packet_of bytes numbers =
    pick (ltb BYTES (length bytes)) (reading_of (Fault TOO_LONG 0) numbers)
    (pick (ltb (length numbers) (length bytes)) (reading_of NoRoom numbers)
    (packet_from (length bytes + 1) bytes (Next Edition) 0 numbers 0))

-- the same without a buffer: the numbers of a packet from a place on, in order, and what it is, with so many numbers before
unfoldable pub numbers_then : Got → (Due → ℕ → List ℕ) → List ℕ
numbers_then (Took v behind due) on = v ∷ on due behind
numbers_then (Bad k place) on = []

unfoldable pub numbers_from : ℕ → List ℕ → Due → ℕ → List ℕ
numbers_from zero bytes due at = []
numbers_from (suc fuel) bytes (Next w) at = numbers_then (got_of bytes at w) (numbers_from fuel bytes)
numbers_from (suc fuel) bytes End at = []
numbers_from (suc fuel) bytes (Refused k) at = []

unfoldable pub taken_then : Got → ℕ → (Due → ℕ → ℕ → Taken) → Taken
taken_then (Took v behind due) count on = on due behind (count + 1)
taken_then (Bad k place) count on = Fault k place

unfoldable pub taken_from : ℕ → List ℕ → Due → ℕ → ℕ → Taken
taken_from zero bytes due at count = Fault ENDED (length bytes)
taken_from (suc fuel) bytes (Next w) at count = taken_then (got_of bytes at w) count (taken_from fuel bytes)
taken_from (suc fuel) bytes End at count = end_of (length bytes) at count
taken_from (suc fuel) bytes (Refused k) at count = Fault k at

-- the numbers of a packet, and what it is, given room
unfoldable pub numbers_in : List ℕ → List ℕ
numbers_in bytes = numbers_from (length bytes + 1) bytes (Next Edition) 0

unfoldable pub taken_of : List ℕ → Taken
taken_of bytes = pick (ltb BYTES (length bytes)) (Fault TOO_LONG 0) (taken_from (length bytes + 1) bytes (Next Edition) 0 0)
