pub mod Changes
pub mod Diff
pub mod Difference
pub mod Report
pub mod Size
