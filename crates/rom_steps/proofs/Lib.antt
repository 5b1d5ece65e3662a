pub mod Again
pub mod Following
pub mod Heard
pub mod Moving
pub mod Stopping
pub mod Stepping
pub mod Numbered
pub mod CompleteLaws
