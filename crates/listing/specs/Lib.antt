-- What a listing is, and how a packet is read. To believe the reader, read Limits, Grammar and Packet, and for the theorems Listing, Parts, Fold, Bytes and Theorems; the rest are laws.
pub mod Limits  -- limits and refusals, each named once
pub mod Due  -- what is due after a number, and as the code answers it
pub mod Grammar  -- which number is due, and what is due after it
pub mod GrammarLaws  -- the grammar by what is due, for the proofs of code
pub mod Got  -- one number that was wanted, and as the code answers it
pub mod Taken  -- what a packet is, and as the code answers it
pub mod Packet  -- how a whole packet is read, with the places of refusals 1 to 6
pub mod PacketLaws  -- one law for each way through the code of the reader
pub mod TakenLaws  -- what the reader leaves in a buffer, by the packet alone
pub mod Listing  -- a listing as data, its numbers and its ranges
pub mod Parts  -- the parts of a listing, read off its numbers
pub mod Rest  -- the items that are still to come
pub mod PlaceLaws  -- where the parts stand, for the proofs of code
pub mod Fold  -- what is due after a row of numbers
pub mod Sorts  -- how the grammar reads the values of a sort
pub mod ItemLaws  -- the reading of an item
pub mod ListingLaws  -- a listing is a row of numbers that the grammar takes to its end, and the other way round
pub mod PartLaws  -- the parts of a listing's own numbers are the listing
pub mod Bytes  -- the bytes of a row of numbers, and the packet of a listing
pub mod ByteLaws  -- a packet is taken exactly where it is the bytes of numbers that the grammar takes
pub mod FaultLaws  -- a refusal names the first fault
pub mod RangeLaws  -- every number of a listing within the ranges can stand in a packet
pub mod Theorems  -- a packet is taken exactly where it is the bytes of a listing, and of one
pub mod Unique  -- any two results that meet a promise are equal
