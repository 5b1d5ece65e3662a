pub mod OnFiles
pub mod Extending
mod Fixed
mod AtDesk
mod Since
mod InJobs
pub mod AtDeskOnFiles
