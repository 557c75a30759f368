pub mod Values
pub mod Searches
pub mod Covering
pub mod Certificates
pub mod Lists
