pub mod Reasons
pub mod Same
