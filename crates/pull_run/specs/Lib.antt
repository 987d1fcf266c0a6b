pub mod Pulls
