pub mod Opening
pub mod Reading
pub mod Mending
pub mod Stretches
