-- The crate's laws, a file each.
-- Assumes nothing.
pub mod Search
pub mod Laws
pub mod Runs
pub mod Notes
pub mod Sequences
