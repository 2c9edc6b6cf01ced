pub mod Ways
pub mod Begun
pub mod Texts
pub mod TwoTexts
