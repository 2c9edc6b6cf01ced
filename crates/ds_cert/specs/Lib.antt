pub mod Categories
pub mod Fields
pub mod Spelling
pub mod Ranges
pub mod Reading
pub mod Laws
pub mod NoDoubles
pub mod Good
