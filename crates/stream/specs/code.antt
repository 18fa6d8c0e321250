pub mod Framed
pub mod Effects
