pub mod Finding
pub mod Stepping
pub mod OneAnswer
