pub mod InputScript
pub mod Typed
