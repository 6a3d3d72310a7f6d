-- What a number of a packet is. To believe the reader of one, read Number; Encode says it the other way round, and the rest are laws.
pub mod Found  -- what stands at a place, and as the code answers it
pub mod Number  -- how a number is read, and 01's refusals 1 and 2
pub mod NumberLaws  -- one law for each way through the loop that reads one
pub mod Encode  -- the bytes of a number
pub mod EncodeLaws  -- a number is read at a place exactly where its bytes stand
