pub mod Open
pub mod Alike
