pub mod Foldable
