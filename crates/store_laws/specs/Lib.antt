pub mod Logged
pub mod Stores
pub mod Moves
pub mod Steps
