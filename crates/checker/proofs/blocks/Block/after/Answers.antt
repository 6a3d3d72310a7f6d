-- `after`: the items that close a block, and the others.
use Rattle.checker.specs.BlockLaws.{closes, stays_open}
use Rattle.checker.proofs.blocks.Block.after.Goals as goal

pub returns-in-Halt : goal.returns-in-Halt
returns-in-Halt c = closes _ c.in-Halt.is

pub returns-in_default : goal.returns-in_default
returns-in_default c = stays_open _ c.in_default.not-Halt c.in_default.not-Jmp c.in_default.not-Cjmp
