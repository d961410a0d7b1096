mod Gate
mod Rows
mod Kept
pub mod Unsynced
mod Opened
mod Reading
mod Spans
mod Parts
mod Scrubbing
mod Closing
pub mod Uniqueness
mod Fronts
