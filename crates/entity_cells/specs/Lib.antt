pub mod Celled
