pub mod Order
pub mod Standing
pub mod Walk
pub mod Tables
pub mod Parts
