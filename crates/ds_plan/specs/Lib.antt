pub mod Keys
pub mod Categories
pub mod Signed
pub mod Documents
