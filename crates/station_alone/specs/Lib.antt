pub mod Station
pub mod Steps
pub mod Keeping
pub mod Opening
pub mod Settled
pub mod Formatted
pub mod Recovery
pub mod Rounds
