pub mod Asking
pub mod Forming
pub mod Admitting
pub mod Stepping
pub mod Sending
