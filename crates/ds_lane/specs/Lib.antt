pub mod Lanes
pub mod LaneInside
pub mod Workers
pub mod WorkerInside
