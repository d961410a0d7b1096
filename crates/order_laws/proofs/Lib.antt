pub mod First
pub mod Ordered
