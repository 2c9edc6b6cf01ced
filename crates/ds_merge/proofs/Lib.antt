pub mod Derived
pub mod Ordered
pub mod OnlyList
pub mod Spots
pub mod Standings
pub mod Walks
pub mod Lookups
pub mod Runs
