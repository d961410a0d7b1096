pub mod Holders
pub mod Emptied
