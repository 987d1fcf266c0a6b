pub mod CellLaws
pub mod JudgeLaws
