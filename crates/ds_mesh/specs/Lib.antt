pub mod Workings
pub mod Phases
pub mod Runs
pub mod Meshes
