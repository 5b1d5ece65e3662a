pub mod Padding
pub mod Sent
