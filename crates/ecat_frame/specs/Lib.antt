pub mod Command
pub mod Frame
pub mod Fault
pub mod Retained
pub mod Answer
pub mod Reading
pub mod Copies
