pub mod Faults
pub mod ResumeText
