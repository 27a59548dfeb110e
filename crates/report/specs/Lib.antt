pub mod FaultLines
pub mod Counts
