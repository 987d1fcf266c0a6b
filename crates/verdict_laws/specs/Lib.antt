pub mod Lines
pub mod Meaning
pub mod Verdict
