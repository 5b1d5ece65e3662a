pub mod Codes
pub mod Bytes
pub mod Head
pub mod Validating
pub mod Category
pub mod Editing
pub mod Line
pub mod Content
