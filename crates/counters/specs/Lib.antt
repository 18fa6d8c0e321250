pub mod Counters
pub mod code
