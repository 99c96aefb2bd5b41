pub mod Grammar
pub mod Order
pub mod Short
pub mod Words
pub mod LineWords
pub mod Lines
pub mod Objects
