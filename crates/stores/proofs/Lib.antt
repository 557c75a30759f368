pub mod Reorderings
pub mod Equivalents
pub mod Insertions
pub mod Growth
pub mod Rows
