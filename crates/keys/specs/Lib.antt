pub mod Numbers
pub mod Listed
pub mod Keys
