pub mod Targets
pub mod Between
pub mod Plans
pub mod Hinted
pub mod Schedule
pub mod Staying
pub mod Waiting
