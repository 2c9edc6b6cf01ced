pub mod Places
pub mod Facts
pub mod Setups
pub mod Receivers
pub mod Numbers
pub mod Desks
pub mod Runs
