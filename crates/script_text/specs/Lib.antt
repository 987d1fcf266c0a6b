pub mod Drafts
pub mod Faults
pub mod Fit
pub mod Orders
pub mod Reading
pub mod Settings
pub mod Words
