-- The code says how a word leaves the machine by a `Result`: the pc where it goes on, or why it stops where it stands. Here are the status and the machine that this means.
use Rattle.std.specs.Prelude.{ℕ, List, Result, Ok, Err}
use Rattle.machine.specs.declared.numbers.Stop.{Stop}
use Rattle.machine.specs.declared.numbers.Stop.TheVariants.{Halted, NoWord, BadWord, BadAddress}
use Rattle.machine.specs.Numbers.{HALTED, NO_WORD, BAD_WORD, BAD_ADDRESS, RUNNING}
use Rattle.machine.specs.Step.{Machine, machine_at}

-- the status of each stop
abbrev pub status_of : Stop → ℕ
status_of Halted = HALTED
status_of NoWord = NO_WORD
status_of BadWord = BAD_WORD
status_of BadAddress = BAD_ADDRESS

-- how many words are acted on where it stops
abbrev pub counted_of : Stop → ℕ
counted_of Halted = 1
counted_of NoWord = 0
counted_of BadWord = 0
counted_of BadAddress = 0

-- the machine that an answer leaves, with the pc that it had and the registers and the heap that it has now
abbrev pub left_at : Result ℕ Stop → List ℕ → ℕ → List ℕ → Machine
left_at (Ok next) regs pc heap = machine_at regs next RUNNING heap
left_at (Err s) regs pc heap = machine_at regs pc (status_of s) heap
