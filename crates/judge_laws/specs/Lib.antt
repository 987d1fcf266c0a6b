pub mod Breached
pub mod Broken
pub mod Judged
