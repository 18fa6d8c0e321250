pub mod Stream
pub mod Reads
pub mod Sources
pub mod Front
