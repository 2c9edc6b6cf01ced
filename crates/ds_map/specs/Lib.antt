pub mod Table
pub mod Labels
pub mod Translation
pub mod Growing
