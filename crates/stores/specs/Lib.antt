pub mod Holding
pub mod Equivalence
pub mod Refusals
pub mod Admission
pub mod Growth
pub mod Rows
