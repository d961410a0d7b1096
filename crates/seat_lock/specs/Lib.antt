pub mod Views
pub mod Promises
pub mod Turns
pub mod Plays
pub mod Locks
pub mod Lists
pub mod Boxes
