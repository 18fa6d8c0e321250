pub mod VarintLaws
pub mod FieldLaws
pub mod GroupLaws
pub mod CutLaws
pub mod StepLaws
pub mod BodyLaws
pub mod WrittenLaws
pub mod RoundTrip
