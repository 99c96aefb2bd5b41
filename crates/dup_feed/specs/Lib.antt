pub mod Feed
pub mod Message
