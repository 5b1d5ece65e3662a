pub mod World
pub mod Happenings
pub mod Law
