pub mod Counts
pub mod Parts
pub mod Summaries
pub mod Runs
