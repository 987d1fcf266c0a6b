pub mod Openings
pub mod Reshapes
