pub mod Reference
pub mod Refused
