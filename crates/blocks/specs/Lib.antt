pub mod Bytes
pub mod Layout
pub mod Faults
pub mod Reading
pub mod Writing
pub mod Laws
