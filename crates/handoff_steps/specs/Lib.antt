pub mod Awaited
pub mod Places
pub mod Seen
