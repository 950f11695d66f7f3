-- The crate's laws, a file each.
-- Assumes nothing.
pub mod Rows
pub mod ReadsBack
pub mod Fits
