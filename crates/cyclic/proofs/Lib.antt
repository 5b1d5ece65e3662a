pub mod Exchanging
pub mod Sending
pub mod Listing
pub mod Turning
pub mod Writing
pub mod Reconfiguring
