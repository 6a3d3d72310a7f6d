-- 01's numbers that the machine answers with, and its limits, each named once; src/numbers.rt has the same for the code.
use Rattle.std.specs.Prelude.{ℕ}

-- the statuses of a state. 43 is 01's "budget used": a run that its budget ends leaves a state that still runs, so 43 is the number of a running state
abbrev pub HALTED : ℕ
HALTED = 0

abbrev pub NO_WORD : ℕ
NO_WORD = 40

abbrev pub BAD_WORD : ℕ
BAD_WORD = 41

abbrev pub BAD_ADDRESS : ℕ
BAD_ADDRESS = 42

abbrev pub RUNNING : ℕ
RUNNING = 43

-- the bare machine's refusals: too long a code; too large a heap; too large a budget
abbrev pub CODE_TOO_LONG : ℕ
CODE_TOO_LONG = 36

abbrev pub BAD_SIZE : ℕ
BAD_SIZE = 30

abbrev pub BUDGET_TOO_LARGE : ℕ
BUDGET_TOO_LARGE = 34

-- the largest code and heap, in words, and the largest budget
unfoldable pub CODE_WORDS : ℕ
CODE_WORDS = 1024

unfoldable pub HEAP_WORDS : ℕ
HEAP_WORDS = 16384

unfoldable pub BUDGET : ℕ
BUDGET = 1000000
