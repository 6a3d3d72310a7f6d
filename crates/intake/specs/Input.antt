-- What `answer` says of its input: how many bytes were read, of a failure too.
use Rattle.std.specs.Prelude.{ℕ, Result, Ok, Err}
use Rattle.intake.specs.declared.Failure.{Failure}
use Rattle.intake.specs.declared.Failure.TheVariants.{Reading, Printing}

abbrev pub count_in : Result ℕ Failure → ℕ
count_in (Ok n) = n
count_in (Err (Reading n)) = n
count_in (Err (Printing n)) = n
