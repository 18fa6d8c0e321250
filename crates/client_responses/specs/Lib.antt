pub mod Reading
pub mod State
pub mod Handed
pub mod Claims
pub mod code
