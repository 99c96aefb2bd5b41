pub mod Breaks
pub mod Faults
pub mod LineStops
pub mod Reach
pub mod Stops
pub mod Taken
pub mod Tasks
pub mod Transcript
