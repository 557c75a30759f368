pub mod Cuts
pub mod Numbers
pub mod Sums
pub mod OneBlock
pub mod Files
pub mod Walk
pub mod Laying
