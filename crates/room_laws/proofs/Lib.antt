pub mod Gives
pub mod Limits
pub mod CoordinatorRoom
pub mod RegionRoom
pub mod EntitiesRoom
pub mod ProducerRoom
pub mod PairRoom
