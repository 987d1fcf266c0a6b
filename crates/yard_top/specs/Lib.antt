pub mod Disks
pub mod Ended
pub mod Ends
pub mod Safely
pub mod Texts
