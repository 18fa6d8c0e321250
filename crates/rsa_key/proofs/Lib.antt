pub mod BitLaws
pub mod ModulusLaws
pub mod IntegerLaws
pub mod ElementLaws
pub mod KeyLaws
