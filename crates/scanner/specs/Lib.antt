pub mod Statuses
pub mod Refusals
pub mod Verdict
pub mod Asked
pub mod Sinks
pub mod Printed
pub mod Run
pub mod Scheduled
