pub mod Cases
pub mod Stars
pub mod Beyond
pub mod PlacedLaws
pub mod DecimalLaws
pub mod LineLaws
pub mod RequestLaws
pub mod RulesLaws
