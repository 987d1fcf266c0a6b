pub mod Named
pub mod Paired
pub mod Produced
pub mod Producing
pub mod Routed
pub mod Within
