pub mod CarryLaws
mod ApplyLaws
mod LeftLaws
