pub mod Numbers
pub mod Restoring
pub mod Auditing
