pub mod Plan
pub mod Journal
pub mod Refusals
