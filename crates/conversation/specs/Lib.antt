pub mod Conversation
pub mod Claims
