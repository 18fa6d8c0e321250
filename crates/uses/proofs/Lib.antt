pub mod RequestLaws
pub mod UsesLaws
pub mod Shown
