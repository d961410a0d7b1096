pub mod Faults
pub mod Routes
