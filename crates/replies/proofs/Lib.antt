pub mod Encoding
pub mod Moving
pub mod OneAnswer
