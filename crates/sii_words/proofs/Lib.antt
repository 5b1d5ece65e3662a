pub mod WordBytes
pub mod LongDivision
pub mod ByteBits
pub mod ShiftRegister
pub mod CheckByteLaws
pub mod RedoLaws
mod GivenLaws
pub mod StretchLaws
pub mod RunLaws
pub mod Copying
pub mod ListedMembers
pub mod Quantifiers
