pub mod Onward
pub mod Places
pub mod Lanes
pub mod Kept
pub mod Found
pub mod Headline
