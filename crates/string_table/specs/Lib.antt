-- The crate's definitions, a file each.
-- Assumes nothing.
pub mod Text
pub mod Names
pub mod Noted
pub mod Utf8
