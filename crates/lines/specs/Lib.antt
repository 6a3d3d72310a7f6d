-- What the checking program's line is. To believe it, read Text, Decimal, Line and Theorems; the rest are laws.
pub mod Text  -- a text as bytes
pub mod Decimal  -- a number in decimal
pub mod Line  -- the line of a verdict, and of a packet
pub mod Put  -- a text put into a buffer, for the functions below `line`
pub mod DecimalLaws  -- for the proofs of code: a number's digits are those of a tenth of it, and its last
pub mod PutLaws  -- for the proofs of code: one law for each way through the functions that put text
pub mod LineLaws  -- for the proofs of code: what a packet is, a refusal's line, and a packet's in front of a buffer
pub mod Theorems  -- a number's digits stand for it, with no 0 in front; every packet has a line
pub mod Unique  -- any two results that meet the promise are equal
