pub mod Handled
pub mod Made
