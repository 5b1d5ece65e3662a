pub mod Separate
pub mod SlaveImages
pub mod Loaded
pub mod Saved
pub mod ScriptFaults
