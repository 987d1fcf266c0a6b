pub mod LiveText
pub mod Owned
pub mod Written
