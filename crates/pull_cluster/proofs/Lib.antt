pub mod DoerLaws
pub mod KeptLaws
pub mod NameLaws
pub mod QueueLaws
pub mod SeatLaws
pub mod StateLaws
pub mod WireLaws
