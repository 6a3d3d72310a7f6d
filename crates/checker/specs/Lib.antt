-- What the checker accepts and refuses, item by item as crate rules says. To believe it, read Walk and Check, and for the theorems Judgement, Refusal and Theorems; the rest are laws.
pub mod Walk  -- the walk down the items
pub mod Judgement  -- when a listing is well typed, by document 000's rules
pub mod Checked  -- what a packet is
pub mod Check  -- the checker on packets
pub mod CheckLaws  -- for the proofs of its code, and what it leaves in the buffer
pub mod Tables  -- where the parts of a listing begin
pub mod RowLaws  -- a push that is not refused has room
pub mod BlockLaws  -- kinds of items that go alike, for the proofs of the code
pub mod States  -- where the walk stands, as the code holds it
pub mod WalkLaws  -- for the proofs of the code of the walk
pub mod Refusal  -- what a refusal says: the first place at which a premise fails, and the table's order there
pub mod RefusalLaws  -- a refusal is the first, and a listing is accepted where every premise holds
pub mod TestLaws  -- the tests of a row of premises are equations of the judgement
pub mod PlacedLaws  -- each label is placed once, by the array of placed labels
pub mod TypingLaws  -- the premises of an item are those of its rule
pub mod AcceptedLaws  -- a walk whose every premise holds is a derivation
pub mod Theorems  -- a listing is accepted exactly where it is well typed, and a refusal is the first
pub mod Unique  -- any two results that meet the promise are equal
