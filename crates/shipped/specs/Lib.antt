pub mod Shipped
pub mod code
