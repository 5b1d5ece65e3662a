pub mod Access
pub mod Handing
pub mod Lines
pub mod States
