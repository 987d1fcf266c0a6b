pub mod Facts
pub mod Knowledge
pub mod Known
pub mod Sound
