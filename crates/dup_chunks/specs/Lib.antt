pub mod Cut
pub mod Chunks
