pub mod Counts
pub mod Marks
pub mod FaultPlans
pub mod Memory
pub mod Texts
pub mod Edge
pub mod Inside
