pub mod Rows
pub mod Laws
pub mod Loop
pub mod Agree
pub mod OneAnswer
