pub mod CellLaws
pub mod ChainLaws
