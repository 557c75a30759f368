pub mod Refusals
pub mod Intact
pub mod Results
