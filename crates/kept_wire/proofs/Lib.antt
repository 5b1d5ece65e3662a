pub mod InJobs
pub mod Keeping
