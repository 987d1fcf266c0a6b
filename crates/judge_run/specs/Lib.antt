pub mod Complaint
pub mod Ends
pub mod Explained
pub mod Input
pub mod Texts
pub mod Words
