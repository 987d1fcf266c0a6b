pub mod ByNode
pub mod Known
