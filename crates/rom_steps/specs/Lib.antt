pub mod Courses
pub mod Accesses
pub mod Back
pub mod Remaining
pub mod After
pub mod Numbers
pub mod Calls
pub mod Complete
