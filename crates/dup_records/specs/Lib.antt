pub mod Refusals
pub mod Fits
pub mod Moved
pub mod JournalSizes
pub mod Pairs
pub mod Costs
