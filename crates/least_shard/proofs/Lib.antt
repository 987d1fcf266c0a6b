pub mod BestLaws
pub mod EvenLaws
pub mod HomeLaws
pub mod MemberLaws
pub mod PickLaws
