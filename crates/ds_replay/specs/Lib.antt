-- What each event of the plain world enters in a shared object, in the order in which it is read.
pub mod Objects
pub mod Touches
pub mod Told
pub mod Laws
pub mod Examples
