pub mod Stepping
pub mod Making
pub mod Refusing
pub mod Starting
pub mod Turning
