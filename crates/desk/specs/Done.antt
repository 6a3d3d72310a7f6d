-- What a call comes to as the code answers it, by the number that C is answered.
use Rattle.std.specs.Prelude.{ℕ, ◌^◌, ◌<◌, Result, Ok, Err}
use Rattle.refusals.specs.declared.Refusal.{Refusal}
use Rattle.refusals.specs.declared.Fault.{Fault}
use Rattle.refusals.specs.Refusals.{number_of}
use Rattle.desk.specs.declared.answers.Done.{Done}
use Rattle.desk.specs.Answer.{answer_of}

-- the status and the count, or the refusal and its place
abbrev pub answer_in : Result Done Fault → ℕ
answer_in (Ok d) = answer_of d.status 0 d.count
answer_in (Err f) = answer_of (number_of f.refusal) f.place 0

-- a place that an answer holds
abbrev pub Near : Result Done Fault → Type 0
Near (Ok d) = Unit {0}
Near (Err f) = f.place < 2 ^ 24

-- a refusal that names no place
abbrev pub unplaced_of : Refusal → Fault
unplaced_of r = record { refusal = r; place = 0 }
