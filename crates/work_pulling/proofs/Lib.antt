pub mod JobLaws
pub mod LeadsLaws
pub mod PostLaws
pub mod ProduceLaws
pub mod PumpLaws
pub mod ReportLaws
pub mod TellLaws
pub mod WorldLaws
