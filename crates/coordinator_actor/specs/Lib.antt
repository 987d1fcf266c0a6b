pub mod Held
pub mod Homes
pub mod Parts
