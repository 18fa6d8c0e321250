pub mod Header
pub mod Wrote
