pub mod Complaint
pub mod Explained
pub mod Forms
pub mod Notices
