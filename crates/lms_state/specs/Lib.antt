pub mod Signers
pub mod Once
