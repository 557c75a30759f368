pub mod Folding
pub mod Asking
pub mod Marking
pub mod Forming
pub mod Meeting
pub mod Depending
pub mod Accepting
pub mod Made
