pub mod Boards
pub mod Parcels
