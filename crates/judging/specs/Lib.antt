pub mod Judgement
pub mod Meaning
