pub mod ConnectionLaws
pub mod CheckLaws
pub mod ChangeLaws
pub mod GatherLaws
pub mod StateLaws
pub mod HeldLaws
