pub mod MadeJobs
pub mod MadeScans
