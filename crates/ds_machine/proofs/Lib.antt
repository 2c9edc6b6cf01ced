pub mod Naming
pub mod Lines
pub mod Histories
pub mod Owning
pub mod Turning
