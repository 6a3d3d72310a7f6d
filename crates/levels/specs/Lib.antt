-- What levels are.
pub mod Order  -- what an order of levels is
pub mod Sets  -- sets of compartments: the order by mask, the join by or
pub mod BitLaws  -- and and or, bit by bit
pub mod SetLaws  -- sets of compartments are an order with joins
