-- The checker on packets, for all bytes: the reader's refusal, or the walk's verdict on the listing whose bytes they are.
use Rattle.std.specs.Prelude.{ℕ, List, eqb}
use Rattle.choice.specs.Pick.{pick}
use Rattle.refusals.specs.Refusals.{Verdict}
use Rattle.levels.specs.Sets.{below_of, join_of}
use Rattle.listing.specs.Taken.{Taken, Listing, Fault, NoRoom}
use Rattle.listing.specs.Packet.{packet_of, numbers_in, taken_of}
use Rattle.listing.specs.Parts.{listing_in}
use Rattle.checker.specs.Checked.{Checked}
use Rattle.checker.specs.Checked as checked
use Rattle.checker.specs.Walk.{walk_of}

-- levels are sets of compartments
abbrev pub verdict_in : List ℕ → Verdict
verdict_in packet = walk_of below_of join_of (listing_in (numbers_in packet))

-- a listing of n numbers, by its verdict
unfoldable pub judged_of : ℕ → Verdict → Checked
judged_of n v = pick (eqb v.number 0) (checked.Accepted n) (checked.Refused v.number v.place)

unfoldable pub checked_by : Taken → Verdict → Checked
checked_by (Listing n) v = judged_of n v
checked_by (Fault k place) v = checked.Refused k place
checked_by NoRoom v = checked.NoRoom

-- what the checker answers, and the words of the buffer that the numbers go to
pub record Checking : Type 0 where
  pub answer : Checked
  pub numbers : List ℕ

abbrev pub checking_of : Checked → List ℕ → Checking
checking_of answer numbers = record { answer = answer; numbers = numbers }

unfoldable pub check_in : List ℕ → List ℕ → Checking
check_in packet room = checking_of (checked_by (packet_of packet room).taken (verdict_in packet)) (packet_of packet room).numbers

-- the same without a buffer, given room
unfoldable pub check_of : List ℕ → Checked
check_of packet = checked_by (taken_of packet) (verdict_in packet)
