pub mod Words
pub mod Identity
pub mod CheckByte
pub mod Plant
pub mod steps
pub mod Run
pub mod Redo
pub mod Histories
