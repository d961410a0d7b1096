pub mod Lists
pub mod Moves
pub mod Steps
pub mod Seats
pub mod Calls
pub mod Numbers
