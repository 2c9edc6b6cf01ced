pub mod Namings
pub mod Members
pub mod Derived
pub mod Flows
