pub mod Shape
pub mod Laws
pub mod Accepted
pub mod Language
pub mod Certificate
pub mod Earliest
