pub mod Gathered
pub mod Orders
