pub mod Edits
pub mod Held
pub mod Keeps
pub mod Ledgers
pub mod Parts
