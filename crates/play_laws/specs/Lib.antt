pub mod Confirming
pub mod Played
pub mod SafeText
pub mod Sound
pub mod TurnItems
