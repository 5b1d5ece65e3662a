pub mod Events
pub mod Turns
pub mod Slaves
pub mod Joined
pub mod Together
