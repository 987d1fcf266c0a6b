pub mod AnswerLaws
pub mod HearLaws
mod RecordLaws
mod ShownLaws
