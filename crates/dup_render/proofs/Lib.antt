pub mod Sorting
pub mod ByField
pub mod EachTurns
pub mod DerivedOrders
pub mod Expansion
pub mod ReadLists
