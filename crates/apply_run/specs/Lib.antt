pub mod Applying
pub mod Left
