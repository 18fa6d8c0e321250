pub mod CallLaws
pub mod Replay
pub mod SerialLaws
pub mod Projections
pub mod Isolation
pub mod CodeIsolation
pub mod Shown
