pub mod WrittenLaws
pub mod AnswerLaws
