-- The crate's laws, a file each.
-- Assumes nothing.
pub mod Openings
