pub mod ProcessData
pub mod ProcessImage
pub mod Answer
pub mod steps
pub mod Named
pub mod NewLayouts
