pub mod Leasts
pub mod Finds
pub mod Places
pub mod Account
