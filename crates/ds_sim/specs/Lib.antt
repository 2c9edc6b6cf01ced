pub mod Routing
pub mod Sims
pub mod Outside
