pub mod CountersLaws
pub mod CountedLaws
pub mod RequestLaws
