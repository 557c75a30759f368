pub mod PatternKind
pub mod Language
