pub mod Refusals
pub mod Questions
pub mod Tables
pub mod Sound
pub mod JointKind
pub mod Language
