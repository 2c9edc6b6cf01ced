pub mod Worlds
pub mod Inside
pub mod Hands
pub mod Afters
pub mod Makings
