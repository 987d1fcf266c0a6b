pub mod HoldLaws
pub mod RoundLaws
