-- What setup makes of a document, in the order in which it is read.
pub mod Lists
pub mod Keys
pub mod Signed
pub mod Plans
pub mod Starts
pub mod Events
pub mod Setups
