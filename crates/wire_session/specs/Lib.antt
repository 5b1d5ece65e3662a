pub mod Ending
pub mod Interleaving
pub mod Keeping
pub mod Planning
pub mod Recovery
pub mod Reporting
pub mod Running
pub mod Slaves
