pub mod Flows
pub mod Doubles
pub mod Carries
