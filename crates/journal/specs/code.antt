pub mod Done
pub mod Written
