-- The crate's definitions, a file each.
-- Assumes nothing.
pub mod Sysv
pub mod Table
pub mod Find
pub mod Formed
