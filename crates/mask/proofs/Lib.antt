pub mod Xor
pub mod Laws
pub mod BlockLaws
pub mod OneAnswer
