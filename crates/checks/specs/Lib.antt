pub mod View
pub mod Questions
pub mod Calls
pub mod Answers
pub mod Lending
