pub mod Parts
pub mod Replying
pub mod Reading
pub mod Flags
pub mod Turns
pub mod Whole
pub mod OneAnswer
