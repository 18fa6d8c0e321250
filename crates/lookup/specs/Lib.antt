pub mod Lookup
pub mod code
