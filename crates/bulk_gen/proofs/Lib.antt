pub mod BulkLaws
pub mod ConfirmedLaws
pub mod DrawLaws
