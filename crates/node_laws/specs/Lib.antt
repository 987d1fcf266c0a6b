pub mod Carried
pub mod Cluster
pub mod Members
pub mod NodeFound
pub mod NodeHolds
pub mod NodeStands
pub mod NodeTurns
pub mod Traces
