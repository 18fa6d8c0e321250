pub mod Refusals
pub mod Call
pub mod Contract
pub mod Claims
pub mod code
