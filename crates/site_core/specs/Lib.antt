pub mod Line
pub mod Disk
pub mod State
pub mod Exchange
pub mod Times
pub mod Calls
pub mod Passes
pub mod Laws
