-- 01's bench pieces.
pub mod Pieces  -- K1 to K12, one table under one statement
