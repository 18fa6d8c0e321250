pub mod Varint
pub mod Field
pub mod Group
pub mod Written
pub mod code
