pub mod PairLaws
pub mod ListLaws
pub mod MarkLaws
pub mod LegalLaws
