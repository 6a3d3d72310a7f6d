-- Any two results that meet the promise of `check` are equal: its promise is an equation of its whole result.
use Rattle.std.specs.Prelude.{ℕ, ◌≡◌, List, Result}
use Rattle.std.proofs.Common.{sym, ◌∙◌}
use Rattle.refusals.specs.declared.Fault.{Fault}
use Rattle.refusals.specs.Refusals.{verdict_in}
use Rattle.refusals.specs.RefusalLaws.{verdict_unique}
use Rattle.start.specs.Start.{start_of}

pub start_unique : (numbers heap blocks regs : List ℕ) (f f' : Result (Unit {0}) Fault) → verdict_in f ≡ start_of numbers heap blocks regs → verdict_in f' ≡ start_of numbers heap blocks regs → f ≡ f'
start_unique numbers heap blocks regs f f' p q = verdict_unique f f' (p ∙ sym q)
