pub mod Distinct
pub mod Joins
pub mod Loops
pub mod CertLaws
pub mod RecordLaws
pub mod Places
