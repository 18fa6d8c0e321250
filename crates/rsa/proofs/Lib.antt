pub mod PowerLaws
pub mod EncodedLaws
pub mod SignatureLaws
