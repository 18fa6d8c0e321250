pub mod Connection
pub mod code
