-- `registers` puts a label's registers in: the whole list is what is left of it from each register on.
use Prim.Native.Nat.{◌+◌, ◌*◌, ◌-◌}
use mathlib.Core.Path.{◌≡◌}
use Rattle.listing.specs.Limits.{REGISTERS}
use Rattle.listing.specs.Parts.{parts_from, register_at, label_at, count_at}
use Rattle.rules.specs.Context.{no_registers, with_listed}
use Rattle.rules.proofs.labels.Label.registers.Given as goal

abbrev pub invariant-loop-i : goal.invariant-loop-i
invariant-loop-i l =
    with_listed no_registers (label_at l.self.numbers.now l.self.place).registers
    ≡ with_listed l.registers (parts_from (register_at l.self.numbers.now) (λ p. p + 3) (l.place + 1 + 3 * l.i) (count_at REGISTERS l.self.numbers.now l.place - l.i))
