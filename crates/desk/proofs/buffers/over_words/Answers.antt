-- `over_words`: the words of the buffers are run, or started over.
use Rattle.desk.specs.RunCallLaws.{of_bytes}
use Rattle.desk.specs.VansDeskLaws.{of_buffers}
use Rattle.desk.specs.WorkLaws.{work_runs, work_starts}
use Rattle.desk.proofs.buffers.over_words.Goals as goal

pub run_over-requires : goal.run_over-requires
run_over-requires c = c.requires.fitting.lent

pub returns-in-Run-clause-did : goal.returns-in-Run-clause-did
returns-in-Run-clause-did c =
    work_runs _ _ _ _ _ _ _ c.in-Run.is
    (of_bytes _ _ _ _ _ _ _ _ _ c.requires.table c.requires.heap c.requires.regs c.run_over.ensures.ran)

pub returns-in-Start-clause-did : goal.returns-in-Start-clause-did
returns-in-Start-clause-did c =
    work_starts _ _ _ _ _ _ _ _ c.in-Start.is
    (of_buffers _ _ _ _ _ _ _ _ _ _ c.requires.heap c.requires.table c.requires.regs c.start_over.ensures.served)
