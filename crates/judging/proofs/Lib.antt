pub mod Fitting
pub mod Texts
