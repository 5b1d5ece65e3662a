-- Definitions that follow the code's steps. No public contract cites them.
pub mod Contents
pub mod Sums
pub mod Described
pub mod Reading
pub mod Placement
pub mod Weight
