pub mod Words
pub mod Front
pub mod Spelled
pub mod Unique
pub mod SoFar
pub mod OneReading
pub mod Parsed
pub mod Answered
mod Lengths
