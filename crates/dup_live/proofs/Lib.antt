pub mod Adding
pub mod Fronts
pub mod Keeps
pub mod LastState
pub mod Panes
pub mod Telling
