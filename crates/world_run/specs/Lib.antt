pub mod Left
pub mod Sides
pub mod Torn
pub mod Progress
pub mod Step
pub mod Returns
