pub mod Cluster
pub mod Holding
