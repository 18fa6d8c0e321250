pub mod BlockLaws
pub mod CountLaws
pub mod UnusedLaws
pub mod RosterLaws
pub mod RequestLaws
pub mod ByteLaws
pub mod FrontLaws
pub mod RestoreLaws
