pub mod Session
pub mod Noting
pub mod RunFiles
