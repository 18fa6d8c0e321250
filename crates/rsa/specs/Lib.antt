pub mod Power
pub mod Signature
pub mod code
