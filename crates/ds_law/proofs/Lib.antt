pub mod Same
pub mod Agreeing
pub mod Documents
