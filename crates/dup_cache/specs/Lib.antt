pub mod Entries
pub mod Holding
pub mod Kept
pub mod Renewing
