pub mod Daemons
pub mod Replays
pub mod Settling
