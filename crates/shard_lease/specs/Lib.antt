pub mod Book
pub mod Meaning
