pub mod Restored
pub mod Taken
pub mod Left
