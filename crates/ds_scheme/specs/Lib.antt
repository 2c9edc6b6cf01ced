pub mod Spelled
pub mod StandingFrames
pub mod TheScheme
pub mod Receivers
pub mod Premises
pub mod Example
