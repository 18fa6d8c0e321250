pub mod ReadLaws
pub mod FeedLaws
pub mod FrontLaws
pub mod SourceLaws
pub mod TextLaws
