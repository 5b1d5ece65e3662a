pub mod HexDigits
pub mod Keys
pub mod Readings
pub mod ScriptRefusals
pub mod ScriptValues
