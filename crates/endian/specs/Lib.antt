-- The crate's definitions, a file each.
-- Assumes nothing.
pub mod Number
pub mod Range
pub mod Place
pub mod Said
