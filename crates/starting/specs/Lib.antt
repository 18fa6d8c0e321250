pub mod Start
pub mod code
