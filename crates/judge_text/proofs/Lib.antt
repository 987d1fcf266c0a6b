pub mod HearLaws
pub mod ReadLaws
