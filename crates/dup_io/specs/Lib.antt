pub mod Causes
pub mod Lines
pub mod Readings
pub mod Std
pub mod Memory
pub mod MemoryLine
