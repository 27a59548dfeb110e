pub mod Runs
pub mod Lanes
