pub mod Places
pub mod TaggedPlaces
pub mod ListBody
pub mod Bodies
