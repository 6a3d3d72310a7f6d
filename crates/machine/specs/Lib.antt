-- What the machine is, in 01's order. To believe the machine, read Numbers, Arithmetic, Word, Step and Run; the rest are laws about them.
pub mod Numbers  -- statuses, refusals and limits, each named once
pub mod Arithmetic  -- words as signed numbers, immediates, the five operations
pub mod ArithmeticLaws  -- signed readings, exact at both ends
pub mod Word  -- the parts of a code word, and the kinds of code word
pub mod WordLaws  -- a word put together and split again; the kind by the opcode
pub mod Step  -- the state, and the step table
pub mod Stops  -- how the code answers a step: where the machine goes on, or why it stops
pub mod TableLaws  -- what a word of each kind does, branch by branch
pub mod StepLaws  -- what a step does, reads and keeps
pub mod Run  -- a run with a budget, and what the bare machine refuses
pub mod RunAnswers  -- how the code answers a run: what it ran, or why it refuses
pub mod RunAnswerLaws  -- the run where nothing is refused, and else the refusal
pub mod RunLaws  -- a stopped machine stays; turns and ends of a run
pub mod R0Laws  -- r0 is nobody's: what the state holds there may be put aside
pub mod Unique  -- any two results that meet a promise are equal
