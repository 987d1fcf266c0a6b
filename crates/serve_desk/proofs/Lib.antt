pub mod DeskLaws
pub mod RowLaws
