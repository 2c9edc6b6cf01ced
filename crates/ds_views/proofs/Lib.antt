pub mod Lookups
pub mod Arrivals
pub mod Actors
pub mod Runs
pub mod Apart
