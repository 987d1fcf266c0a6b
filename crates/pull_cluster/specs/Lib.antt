pub mod Cluster
pub mod Kept
