pub mod Premises
pub mod Delivered
pub mod Puts
pub mod Rules
pub mod Checked
pub mod Example
