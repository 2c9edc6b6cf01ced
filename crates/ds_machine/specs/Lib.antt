-- The plain world as the machine of a merge, in the order in which it is read.
pub mod Names
pub mod Spelled
pub mod Machine
pub mod Laws
pub mod Turns
pub mod Examples
