pub mod Queues
pub mod Inside
