pub mod Names
pub mod Secrecy
