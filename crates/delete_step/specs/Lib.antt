pub mod Logging
pub mod Claims
pub mod Records
