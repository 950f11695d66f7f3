-- The crate's laws, a file each.
-- Assumes nothing.
pub mod Written
pub mod Numbers
pub mod Signed
pub mod Alike
pub mod Stored
