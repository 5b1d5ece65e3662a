-- Definitions that follow the code's steps. No public contract cites them.
pub mod Draft
