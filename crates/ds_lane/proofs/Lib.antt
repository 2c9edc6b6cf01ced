pub mod Fronts
pub mod Grows
pub mod Sizes
