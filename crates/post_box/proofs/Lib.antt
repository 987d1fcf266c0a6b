pub mod Rules
pub mod Places
pub mod Rows
pub mod Dealt
pub mod Holders
pub mod SendLaws
