pub mod Audit
pub mod Step
pub mod Contract
pub mod Claims
pub mod code
