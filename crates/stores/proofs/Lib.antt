pub mod Moves
pub mod OneAnswer
