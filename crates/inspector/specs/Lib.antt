pub mod Refusals
pub mod Inspected
pub mod Meaning
