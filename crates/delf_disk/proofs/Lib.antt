mod EpochSteps
pub mod Flags
mod Laid
mod Loops
mod MemSteps
pub mod Moments
mod Rooms
pub mod Writes
