pub mod Frame
pub mod Rules
pub mod Call
pub mod Parts
pub mod Handed
pub mod Claims
pub mod code
