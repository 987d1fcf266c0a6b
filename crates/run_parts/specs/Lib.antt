pub mod Stops
pub mod Writing
