-- What stands in a program's buffer after its packet is read.
pub mod Input  -- how many bytes were read
