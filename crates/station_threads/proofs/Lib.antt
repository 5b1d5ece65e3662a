pub mod Zips
mod Workers
pub mod Sent
pub mod PlaceLaws
mod Turns
mod Refusing
