pub mod Asking
pub mod Parts
pub mod AtDesk
pub mod Recovering
pub mod Saving
pub mod After
pub mod Running
