-- vans_check: what it answers, for all bytes.
use Rattle.std.specs.Prelude.{ℕ, ◌<◌, ◌^◌, List}
use Rattle.listing.specs.declared.reading.ReadError.{ReadError}
use Rattle.listing.specs.declared.reading.ReadError.TheVariants as error
use Rattle.checker.specs.Checked.{Checked, Accepted, Refused, NoRoom}
use Rattle.checker.specs.Check.{check_of}
use Rattle.service.specs.Numbers.{DOES_NOT_FIT}
use Rattle.desk.specs.Answer.{answer_of}

-- by what the packet is. check_of is never NoRoom; were it, that would be a refusal
unfoldable pub answer_by : Checked → ℕ
answer_by (Accepted n) = answer_of 0 0 0
answer_by (Refused k place) = answer_of k place 0
answer_by NoRoom = answer_of DOES_NOT_FIT 0 0

-- an error whose place an answer holds
abbrev pub NearPlace : ReadError → Type 0
NearPlace (error.Refused f) = f.place < 2 ^ 24
NearPlace error.NoRoom = Unit {0}

-- the call
unfoldable pub vans_check_of : List ℕ → ℕ
vans_check_of packet = answer_by (check_of packet)
