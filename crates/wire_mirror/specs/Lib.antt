pub mod JournalWrites
pub mod Mirroring
