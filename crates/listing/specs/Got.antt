-- One number that was wanted, as definitions speak of it, and as the code answers it.
use Rattle.std.specs.Prelude.{ℕ, Result, Ok, Err}
use Rattle.refusals.specs.declared.Fault.{Fault}
use Rattle.refusals.specs.Refusals.{number_of}
use Rattle.listing.specs.declared.reading.Step.{Step}
use Rattle.listing.specs.Due.{Due, due_of}

-- the number, the place behind it and what is due then; or the fault there
pub data Got : Type 0 where
  Took : ℕ → ℕ → Due → Got
  Bad : ℕ → ℕ → Got

abbrev pub got_in : Result Step Fault → Got
got_in (Ok step) = Took step.value step.behind (due_of step.due)
got_in (Err fault) = Bad (number_of fault.refusal) fault.place
