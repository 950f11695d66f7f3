-- The crate's definitions, a file each.
-- Assumes nothing.
pub mod Record
