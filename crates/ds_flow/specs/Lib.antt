pub mod Chains
pub mod Judged
pub mod Asked
pub mod Carried
