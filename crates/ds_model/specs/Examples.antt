-- Small worlds that compute: each is a value, and what happens in it is shown by evaluation.
pub mod OneHost
pub mod Script
pub mod TwoHosts
pub mod Refusals
pub mod Texts
