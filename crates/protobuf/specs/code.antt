pub mod Message
pub mod Body
