pub mod Deeds
pub mod Kept
pub mod Last
pub mod Refusals
pub mod Rules
pub mod Stories
pub mod Windows
