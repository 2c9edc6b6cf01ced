pub mod There
pub mod Replays
pub mod Learning
pub mod Asks
pub mod Still
pub mod Slots
