pub mod Hashing
pub mod Keys
pub mod Operations
pub mod Whole
