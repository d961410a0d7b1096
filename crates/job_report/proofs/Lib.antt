pub mod Appends
pub mod Floats
