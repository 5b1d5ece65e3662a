pub mod Document
pub mod Hexadecimal
pub mod LineText
pub mod Reading
pub mod ScriptText
