pub mod RunLaws
pub mod TellLaws
