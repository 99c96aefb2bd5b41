pub mod Acting
pub mod Caches
pub mod Reaching
