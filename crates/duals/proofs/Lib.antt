pub mod Marked
pub mod Dualised
pub mod Opposite
pub mod Complementing
pub mod Pairing
pub mod Separating
