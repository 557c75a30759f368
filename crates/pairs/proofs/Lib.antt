pub mod Fronts
pub mod Pairs
pub mod Promise
pub mod Rereading
