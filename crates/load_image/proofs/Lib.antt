-- The crate's laws, a file each.
-- Assumes nothing.
pub mod Laws
pub mod Pieces
pub mod Segments
pub mod Table
pub mod Finish
pub mod Theorems
