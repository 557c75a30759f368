pub mod Refusals
pub mod Inspections
