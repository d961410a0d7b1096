pub mod Settling
pub mod Dropping
pub mod Starting
pub mod Unique
pub mod Fronts
pub mod Bad
