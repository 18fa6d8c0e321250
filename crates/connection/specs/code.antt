pub mod State
pub mod Gather
