pub mod Ends
pub mod Explained
pub mod Faults
pub mod Scenes
pub mod Statuses
pub mod Turns
pub mod Windows
pub mod Words
