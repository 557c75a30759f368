pub mod Shapes
pub mod Acceptance
