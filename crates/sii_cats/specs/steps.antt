-- Definitions that follow the code's steps. Laws prove that they agree with the grammars, so no reader has to trust them.
pub mod Items
pub mod Chain
pub mod Contents
pub mod Pdos
pub mod Strings
pub mod Reading
pub mod Splice
