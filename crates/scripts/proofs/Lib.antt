pub mod Acting
pub mod Scripting
