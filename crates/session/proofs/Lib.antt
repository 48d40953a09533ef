pub mod Choices
pub mod Holds
pub mod InRange
pub mod OneAnswer
pub mod Refusals
pub mod Worked
pub mod Fold
