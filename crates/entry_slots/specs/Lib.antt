pub mod Entered
pub mod Kept
