-- Chains of certificates from a category's creator to a key, and who holds a category by them.
pub mod Keys
pub mod Chain
pub mod Holding
pub mod Shortest
pub mod Distance
pub mod Naming
pub mod Stored
pub mod Delegated
pub mod Addresses
pub mod Postings
pub mod Answers
