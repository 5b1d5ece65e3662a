pub mod KeptFiles
pub mod Cuts
pub mod DeskFiles
