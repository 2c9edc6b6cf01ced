pub mod Replay
pub mod Inner
pub mod Fits
pub mod Names
pub mod Process
pub mod Inside
