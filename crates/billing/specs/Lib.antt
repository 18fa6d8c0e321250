pub mod Ascii
pub mod Bill
pub mod Outcome
pub mod code
pub mod Claims
