pub mod Booleans
pub mod CartLaws
pub mod Laws
