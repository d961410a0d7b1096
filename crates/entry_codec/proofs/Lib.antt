pub mod Fields
pub mod Entries
pub mod Items
pub mod Writing
