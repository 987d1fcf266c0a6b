mod CharterLaws
pub mod CountsLaws
mod FactsLaws
pub mod FollowLaws
mod FrontLaws
mod MembersLaws
mod OutLaws
mod SendsLaws
mod ShardSetLaws
