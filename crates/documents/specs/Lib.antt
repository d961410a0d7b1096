pub mod Checks
pub mod Cuts
pub mod Documents
pub mod Loads
pub mod Names
pub mod Requests
