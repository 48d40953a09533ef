pub mod Lent
pub mod OneAnswer
pub mod Putting
pub mod Reading
pub mod Splitting
pub mod Worked
