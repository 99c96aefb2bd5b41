pub mod Json
pub mod Members
pub mod Elements
pub mod BodyLines
pub mod Utf8Words
pub mod Again
pub mod Values
