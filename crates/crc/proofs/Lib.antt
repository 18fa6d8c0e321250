pub mod CrcLaws
pub mod TableLaws
pub mod ResidueLaws
