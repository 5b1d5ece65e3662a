pub mod Came
pub mod Numbers
pub mod Out
pub mod Room
pub mod Sending
