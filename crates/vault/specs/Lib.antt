pub mod Items
pub mod Fetching
