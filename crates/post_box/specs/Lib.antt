pub mod Rule
pub mod Holding
pub mod Tables
pub mod Left
pub mod Making
