pub mod Jobs
pub mod Working
pub mod JobSteps
pub mod HangJobs
pub mod SiteJobs
