pub mod Rows
pub mod Tables
pub mod Sets
pub mod Bridge
pub mod Numbers
pub mod Growing
pub mod Images
