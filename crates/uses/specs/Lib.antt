pub mod Uses
pub mod Claims
