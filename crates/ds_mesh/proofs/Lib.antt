pub mod Works
pub mod Phases
pub mod Quiet
pub mod Texts
