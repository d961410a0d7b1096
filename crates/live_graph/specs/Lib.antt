pub mod Ends
pub mod Places
pub mod ListGraph
pub mod ShardGraph
pub mod Laws
