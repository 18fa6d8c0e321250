pub mod Names
pub mod Slots
pub mod Registry
pub mod WellFormed
pub mod code
