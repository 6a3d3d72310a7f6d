-- What a start is, and when it passes. To believe the start check, read Numbers, Start, Meaning, Refusal and Theorems; the rest are laws.
pub mod Numbers  -- the refusals, each named once
pub mod Start  -- which start passes, and the first refusal with its place
pub mod Meaning  -- what a passing start means
pub mod Refusal  -- what a refusal means: it is the first
pub mod PartLaws  -- where a shape's fields and the first label's registers stand among the numbers, for the proofs of code
pub mod PairLaws  -- the rows of a block table as pairs of words, and what stands in a list at an index
pub mod SearchLaws  -- one law for each way through the code of the searches
pub mod ClearLaws  -- each test is clear of a fault exactly where its statement of Meaning holds
pub mod RowLaws  -- the same of the rows
pub mod KindLaws  -- where bases rise, the kinds of blocks are entered by address
pub mod RefusalLaws  -- a refusal is the first
pub mod PassingLaws  -- the whole check is clear exactly where a start is a passing one
pub mod ListedLaws  -- the indices of the registers that the first label lists
pub mod Theorems  -- a start passes exactly where Meaning's statements hold, and what follows of its words
pub mod Unique  -- any two results that meet a promise are equal
