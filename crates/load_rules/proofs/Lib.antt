-- The crate's laws, a file each.
-- Assumes nothing.
pub mod Tests
pub mod Power
pub mod Pages
