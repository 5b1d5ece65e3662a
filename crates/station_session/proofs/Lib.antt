pub mod Ending
mod Noting
pub mod RunFiles
mod Recovered
pub mod Telling
