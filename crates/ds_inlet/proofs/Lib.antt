pub mod Counts
pub mod Messages
pub mod Steady
pub mod Follows
pub mod ForHost
pub mod PlainCalls
pub mod Accepting
pub mod Places
