pub mod Texts
pub mod Fuel
pub mod Windows
pub mod Still
pub mod Handed
pub mod Reach
pub mod Ends
pub mod Example
