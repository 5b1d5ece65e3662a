pub mod Backup
pub mod Keeping
pub mod Opening
pub mod Pending
