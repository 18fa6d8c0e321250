pub mod RosterLaws
pub mod LoadLaws
