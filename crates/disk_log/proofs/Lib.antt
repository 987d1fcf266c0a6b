mod ListLaws
pub mod FrameLaws
mod TornLaws
pub mod Moments
pub mod CommitLaws
mod MediaLaws
mod ReplayLaws
pub mod SpellLaws
pub mod OnceLaws
pub mod LineLaws
pub mod ReadLaws
pub mod GoingLaws
mod KeptLaws
mod GateLaws
mod WriteLaws
mod HeadLaws
mod WholeLaws
