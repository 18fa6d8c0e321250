pub mod Roster
pub mod code
