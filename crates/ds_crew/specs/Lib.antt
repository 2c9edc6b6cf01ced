pub mod Crews
pub mod Histories
pub mod ActorEvents
