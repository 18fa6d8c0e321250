pub mod NameLaws
pub mod KeyLaws
pub mod MarkLaws
