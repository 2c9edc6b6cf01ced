pub mod Words
pub mod Lines
pub mod Replies
pub mod Chains
pub mod Outcome
