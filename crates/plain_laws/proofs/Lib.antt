pub mod Booleans
pub mod Lists
pub mod Members
pub mod Names
pub mod Read
