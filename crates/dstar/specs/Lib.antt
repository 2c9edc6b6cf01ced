pub mod Outside
pub mod Codes
pub mod Words
pub mod Sims
pub mod Causes
pub mod Headline
pub mod Meshes
pub mod Summaries
