mod Separate
pub mod Out
pub mod Sending
pub mod Fitting
