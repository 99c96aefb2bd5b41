pub mod Growing
pub mod Contents
