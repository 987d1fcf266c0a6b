pub mod LineLaws
pub mod PlainLaws
pub mod ReplayLaws
pub mod SizeLaws
