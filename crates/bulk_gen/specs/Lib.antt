pub mod Bulk
pub mod Counted
pub mod SummaryText
