-- What erasing is. To believe the eraser, read Erase and Theorems; the rest are laws.
pub mod Erase  -- which items are kept, the labels' addresses, and the code words
pub mod PassLaws  -- one law for each way through the code of the two passes
pub mod ItemLaws  -- the words of items and of rows of items
pub mod AddressLaws  -- the addresses of rows of items
pub mod Theorems  -- the words split into the items' own parts, and stand in their places; addresses are counts, and fit
pub mod Unique  -- any two results that meet a promise are equal
