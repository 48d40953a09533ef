pub mod Session
pub mod Answers
pub mod Frames
pub mod Refusals
pub mod Range
pub mod Reading
pub mod Replies
pub mod Calls
