pub mod GatherLaws
pub mod OrderLaws
