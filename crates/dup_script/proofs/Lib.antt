mod NumberLemmas
mod WordLemmas
mod Rooms
mod LineTexts
pub mod RefusedTexts
