pub mod Typed
pub mod Condemned
