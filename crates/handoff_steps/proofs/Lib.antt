pub mod BitLaws
pub mod PlaceLaws
mod AwaitedLaws
