pub mod EndLaws
pub mod InputLaws
pub mod ScriptLaws
pub mod WholeLaws
mod WordLaws
