pub mod InOrder
pub mod Looks
