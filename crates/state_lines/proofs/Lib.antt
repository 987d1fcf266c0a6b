pub mod RangeLaws
pub mod StateLaws
pub mod ToldLaws
