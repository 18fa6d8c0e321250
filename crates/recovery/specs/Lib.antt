pub mod Unused
pub mod Claims
