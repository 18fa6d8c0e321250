pub mod JudgeLaws
pub mod WritingLaws
