pub mod Commands
pub mod Splitting
pub mod Options
pub mod Reading
pub mod Jobs
