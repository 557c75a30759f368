pub mod Dual
pub mod Without
pub mod Complement
