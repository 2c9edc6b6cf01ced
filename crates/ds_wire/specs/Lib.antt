pub mod Fields
pub mod Room
