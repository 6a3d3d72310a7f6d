-- `check_registers` tests r0, and goes from register to register then: the first fault is that of the registers that are left.
use mathlib.Core.Path.{◌≡◌}
use lib.ListN.{drop}
use Rattle.start.specs.Start.{first_of, first_listed, register_fault, registers_fault}
use Rattle.start.specs.PartLaws.{registers_in}
use Rattle.start.specs.PairLaws.{rows_in}
use Rattle.start.proofs.starts.Start.check_registers.Given as goal

abbrev pub invariant-loop-n : goal.invariant-loop-n
invariant-loop-n l =
    registers_fault (rows_in l.self.blocks.rows.now) (first_listed l.self.numbers.now) l.self.regs.now
    ≡ first_of (register_fault (rows_in l.self.blocks.rows.now) l.self.regs.now) (drop l.n (registers_in l.self.numbers.now l.listed.at l.listed.count))
