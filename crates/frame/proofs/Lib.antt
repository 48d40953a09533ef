pub mod Flags
pub mod Lengths
pub mod Closes
pub mod Headers
pub mod ReadBack
pub mod OneAnswer
