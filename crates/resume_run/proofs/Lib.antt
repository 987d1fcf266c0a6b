pub mod FreedLaws
pub mod ResumeLaws
mod SpellLaws
