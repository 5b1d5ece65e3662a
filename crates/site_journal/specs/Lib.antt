pub mod Action
pub mod Runs
pub mod Reading
pub mod Formatting
pub mod Running
pub mod Ready
pub mod Left
pub mod Recovering
