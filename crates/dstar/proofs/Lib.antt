pub mod Sims
pub mod Answering
pub mod Asked
pub mod Headlines
pub mod Meshes
