mod GivingUp
mod Kept
pub mod KeptWords
mod Mending
mod Opened
mod Refusing
mod Writing
