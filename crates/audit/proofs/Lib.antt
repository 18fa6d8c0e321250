pub mod AlikeLaws
pub mod VerdictLaws
pub mod StepLaws
pub mod CalledLaws
pub mod PlaceLaws
pub mod StepsLaws
pub mod ClaimLaws
