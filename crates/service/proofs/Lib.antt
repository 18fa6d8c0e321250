pub mod KeptLaws
pub mod CallLaws
pub mod RoomLaws
pub mod Demand3
pub mod ServeLaws
pub mod CalledLaws
pub mod CodeDemand3
