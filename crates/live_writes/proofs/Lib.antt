pub mod InOrder
pub mod Undoing
pub mod Lasts
pub mod Answering
