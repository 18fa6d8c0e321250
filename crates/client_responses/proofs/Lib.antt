pub mod StateLaws
pub mod FoundLaws
pub mod LookLaws
pub mod ReadLaws
pub mod CutLaws
pub mod PiecesLaws
pub mod Cases
