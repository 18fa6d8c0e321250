pub mod Names
pub mod Key
pub mod code
