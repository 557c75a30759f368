pub mod Spots
pub mod Lawful
