pub mod Hearing
pub mod Hearings
pub mod Queues
pub mod Restarts
pub mod Rows
pub mod Series
pub mod Served
pub mod Servings
