pub mod Adding
pub mod Names
pub mod Whole
pub mod Written
