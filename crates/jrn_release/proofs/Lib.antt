pub mod Less
pub mod Placed
pub mod Put
