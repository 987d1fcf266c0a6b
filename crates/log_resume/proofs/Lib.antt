pub mod EntryLaws
pub mod StepLaws
pub mod BatchLaws
pub mod FreedLaws
pub mod NoteLaws
pub mod DoneLaws
