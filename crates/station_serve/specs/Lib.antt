pub mod Captures
pub mod Images
