pub mod Intacts
pub mod Reading
pub mod Walking
pub mod Collecting
pub mod Refusing
pub mod States
