pub mod Called
pub mod Served
pub mod Calls
