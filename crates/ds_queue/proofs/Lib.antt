mod Fronts
pub mod Copies
