pub mod Hears
pub mod Reads
pub mod Steps
