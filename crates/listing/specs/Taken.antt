-- What a packet is, as definitions speak of it, and as the code answers it.
use Rattle.std.specs.Prelude.{ℕ, ◌≡◌, Result, Ok, Err}
use Rattle.std.proofs.Common.{refl}
use Rattle.refusals.specs.declared.Fault as fault
use Rattle.refusals.specs.declared.Refusal.TheVariants.{DoesNotFit}
use Rattle.refusals.specs.Refusals.{number_of}
use Rattle.refusals.specs.RefusalLaws.{verdict_unique}
use Rattle.listing.specs.declared.reading.ReadError.{ReadError}
use Rattle.listing.specs.declared.reading.ReadError.TheVariants as error

-- a listing of so many numbers, or a fault with its refusal's number and place; or there is less room for its numbers than it has bytes
pub data Taken : Type 0 where
  Listing : ℕ → Taken
  Fault : ℕ → ℕ → Taken
  NoRoom : Taken

abbrev pub taken_in : Result ℕ ReadError → Taken
taken_in (Ok n) = Listing n
taken_in (Err (error.Refused fault)) = Fault (number_of fault.refusal) fault.place
taken_in (Err error.NoRoom) = NoRoom

-- the fault of a packet that is not read; 35 at 0 where there is no room
abbrev pub fault_for : ReadError → fault.Fault
fault_for (error.Refused fault) = fault
fault_for error.NoRoom = record { refusal = DoesNotFit; place = 0 }

-- no two answers of the code are one
same_fault : (f f' : fault.Fault) → Fault (number_of f.refusal) f.place ≡ Fault (number_of f'.refusal) f'.place → ◌≡◌ {A = Result (Unit {0}) fault.Fault} (Err f) (Err f')
same_fault f f' e = verdict_unique (Err f) (Err f') (cc)

pub taken_unique : (r r' : Result ℕ ReadError) → taken_in r ≡ taken_in r' → r ≡ r'
taken_unique (Ok n) (Ok n') e = cc
taken_unique (Ok n) (Err (error.Refused f)) e = cc
taken_unique (Ok n) (Err error.NoRoom) e = cc
taken_unique (Err (error.Refused f)) (Ok n) e = cc
taken_unique (Err (error.Refused f)) (Err (error.Refused f')) e = cc (same_fault f f' e)
taken_unique (Err (error.Refused f)) (Err error.NoRoom) e = cc
taken_unique (Err error.NoRoom) (Ok n) e = cc
taken_unique (Err error.NoRoom) (Err (error.Refused f)) e = cc
taken_unique (Err error.NoRoom) (Err error.NoRoom) e = refl
