pub mod Sums
pub mod Dooms
pub mod Runs
pub mod Ends
pub mod Steps
pub mod OneAnswer
