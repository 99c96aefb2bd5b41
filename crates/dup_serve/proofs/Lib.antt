pub mod NodeTexts
pub mod Tables
pub mod TwoTexts
