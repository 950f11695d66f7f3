-- The crate's laws, a file each.
-- Assumes nothing.
pub mod Opening
pub mod Order
pub mod Clash
pub mod Table
pub mod Accept
pub mod Narrow
pub mod Reason
