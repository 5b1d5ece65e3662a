mod Storing
mod Stored
mod Validated
mod Taking
mod Again
mod Showing
pub mod AmendedLaws
mod Boards
mod Due
mod Only
mod Ordered
mod Asking
mod Passing
pub mod Living
mod Sends
mod ReadingBack
mod After
mod Carrying
mod Cuts
mod FollowingUp
mod Journal
pub mod Behind
pub mod JournalFile
mod Following
mod Together
mod Between
pub mod Doings
mod DueTo
pub mod Sent
