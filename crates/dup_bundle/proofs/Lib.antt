pub mod Paths
pub mod Exact
pub mod Steps
pub mod Walk
pub mod Hinting
pub mod Knots
pub mod Ordered
pub mod Waiting
