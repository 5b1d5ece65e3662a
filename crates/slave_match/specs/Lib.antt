pub mod Difference
pub mod Reason
