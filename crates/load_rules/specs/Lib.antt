-- The crate's definitions, a file each.
-- Assumes nothing.
pub mod Rules
pub mod Facts
