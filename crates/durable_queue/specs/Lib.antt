pub mod Kept
pub mod Queue
