-- The crate's definitions, a file each.
-- Assumes nothing.
pub mod Carry
pub mod Image
pub mod Pieces
