pub mod Registers
pub mod Configuration
pub mod Exchange
pub mod Sending
pub mod Turn
pub mod Laws
