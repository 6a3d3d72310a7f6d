-- What is due after a number, as definitions speak of it, and as the code answers it.
use Rattle.std.specs.Prelude.{ℕ, ◌≡◌, Option, Some, None, Result, Ok, Err}
use Rattle.std.proofs.Common.{refl, ap}
use Rattle.refusals.specs.declared.Refusal.{Refusal}
use Rattle.refusals.specs.Refusals.{number_of}
use Rattle.refusals.specs.RefusalLaws.{number_unique}
use Rattle.listing.specs.declared.grammar.Wanted.{Wanted}

-- a number, nothing more, or nothing because the number before was refused
pub data Due : Type 0 where
  Next : Wanted → Due
  End : Due
  Refused : ℕ → Due

-- the same as the code answers it: a number or nothing more, or a refusal
abbrev pub due_of : Option Wanted → Due
due_of (Some wanted) = Next wanted
due_of None = End

abbrev pub due_in : Result (Option Wanted) Refusal → Due
due_in (Ok due) = due_of due
due_in (Err refusal) = Refused (number_of refusal)

-- no two answers of the code are one
pub due_unique : (r r' : Result (Option Wanted) Refusal) → due_in r ≡ due_in r' → r ≡ r'
due_unique (Ok (Some w)) (Ok (Some w')) e = cc
due_unique (Ok (Some w)) (Ok None) e = cc
due_unique (Ok (Some w)) (Err x) e = cc
due_unique (Ok None) (Ok (Some w)) e = cc
due_unique (Ok None) (Ok None) e = refl
due_unique (Ok None) (Err x) e = cc
due_unique (Err x) (Ok (Some w)) e = cc
due_unique (Err x) (Ok None) e = cc
due_unique (Err x) (Err y) e = ap Err (number_unique x y (cc))
