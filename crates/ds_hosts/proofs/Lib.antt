pub mod Keeps
pub mod Arrivals
pub mod Nothing
pub mod Places
pub mod Hands
pub mod Entering
