pub mod Asking
pub mod Heads
