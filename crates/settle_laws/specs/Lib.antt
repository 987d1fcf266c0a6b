pub mod Alone
pub mod Begun
pub mod Inputs
pub mod Lonely
pub mod Produced
pub mod Settles
pub mod Steps
