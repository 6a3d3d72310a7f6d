-- What the desk call on words answers, and what it leaves in code and heap. To believe it, read Numbers and Desk; the rest are laws.
pub mod Numbers  -- the refusal 35, and the largest block table
pub mod Desk  -- the desk call on words
pub mod Served  -- the same as the code answers it
pub mod DeskLaws  -- for the proofs of its code
pub mod Unique  -- any two results that meet the promise are equal
