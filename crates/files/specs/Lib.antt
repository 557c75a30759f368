pub mod Refusals
pub mod Layout
pub mod Questions
pub mod Heading
pub mod Fronts
pub mod Lines
pub mod RoundTrips
pub mod Laying
