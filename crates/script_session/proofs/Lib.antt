pub mod SeparateLaws
pub mod AskLaws
pub mod HalfPlaces
mod PartLaws
pub mod SlaveLaws
pub mod LeftLaws
pub mod ReportedLaws
pub mod SoundLaws
pub mod DeskLaws
pub mod IssueLaws
pub mod RecoveryLaws
pub mod SavingLaws
pub mod ThreeDevices
pub mod AfterLaws
pub mod RunLaws
pub mod SaysLaws
