-- That 01's bench pieces hold.
pub mod Pieces  -- each row of the table of specs/Pieces.antt holds
