pub mod BoardLaws
pub mod FreshLaws
