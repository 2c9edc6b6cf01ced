pub mod Runs
pub mod Logs
pub mod Actors
pub mod Tasks
