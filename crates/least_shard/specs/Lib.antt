pub mod Fair
pub mod Seen
pub mod Spread
