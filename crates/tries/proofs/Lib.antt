pub mod Paths
pub mod Walks
pub mod Trails
pub mod Places
pub mod Settling
pub mod Releasing
pub mod Growing
pub mod Stores
