pub mod Machine
pub mod Sent
pub mod Sources
pub mod Refusals
pub mod Questions
pub mod Formed
