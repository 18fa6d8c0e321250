pub mod Octets
pub mod Key
