pub mod Signing
pub mod Desks
pub mod Replies
