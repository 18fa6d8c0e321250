pub mod Status
pub mod Operations
pub mod Counts
pub mod Judgement
pub mod code
