pub mod Rows
pub mod Desks
