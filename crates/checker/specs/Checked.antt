-- What a packet is: accepted, a listing of so many numbers; refused, with the number and place; or there is less room for its numbers than it has bytes.
use Rattle.std.specs.Prelude.{ℕ, Result, Ok, Err}
use Rattle.refusals.specs.Refusals.{number_of}
use Rattle.listing.specs.declared.reading.ReadError.{ReadError}
use Rattle.listing.specs.declared.reading.ReadError.TheVariants as error

pub data Checked : Type 0 where
  Accepted : ℕ → Checked
  Refused : ℕ → ℕ → Checked
  NoRoom : Checked

-- the same as the code answers it
abbrev pub checked_in : Result ℕ ReadError → Checked
checked_in (Ok n) = Accepted n
checked_in (Err (error.Refused f)) = Refused (number_of f.refusal) f.place
checked_in (Err error.NoRoom) = NoRoom
