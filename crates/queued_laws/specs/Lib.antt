pub mod Confirmed
pub mod Queued
