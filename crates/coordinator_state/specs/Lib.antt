pub mod Coord
pub mod Homes
pub mod Kept
