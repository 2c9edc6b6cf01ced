pub mod Counting
pub mod Moves
pub mod Keeping
pub mod Spelling
