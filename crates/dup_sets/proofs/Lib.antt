pub mod Trees
pub mod Sets
pub mod Entries
