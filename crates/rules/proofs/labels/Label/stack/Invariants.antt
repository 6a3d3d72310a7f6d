-- `stack` pushes from the last label up: what is pushed is the label's stack from there on.
use Prim.Native.Nat.{◌+◌, ◌-◌, ◌≤◌}
use mathlib.Core.Path.{◌≡◌}
use Rattle.listing.specs.Limits.{STACK}
use Rattle.listing.specs.Parts.{parts_from, number_at, count_at}
use Rattle.rules.specs.Held.{stack_in}
use Rattle.rules.proofs.labels.Label.stack.Given as goal

abbrev pub invariant-loop-i : goal.invariant-loop-i
invariant-loop-i l =
    (stack_in l.stack ≡ parts_from (number_at l.self.numbers.now) (λ p. p + 1) (l.self.place + 2 + l.i) (count_at STACK l.self.numbers.now (l.self.place + 1) - l.i))
    × (l.i ≤ count_at STACK l.self.numbers.now (l.self.place + 1))
