pub mod BehindLaws
mod DecimalLaws
pub mod EntryLaws
pub mod FactLaws
pub mod NumberLaws
pub mod PartLaws
pub mod TextLaws
