pub mod Aged
