pub mod Rows
pub mod Changes
pub mod Trails
pub mod Forests
pub mod Words
pub mod Tries
