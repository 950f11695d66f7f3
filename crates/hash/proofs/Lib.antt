-- The crate's laws, a file each.
-- Assumes nothing.
pub mod Laws
pub mod Forms
pub mod Turns
pub mod Pigeon
pub mod Finding
pub mod Sample
