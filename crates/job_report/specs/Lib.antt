pub mod Json
pub mod Texts
pub mod Words
