pub mod Words
pub mod Values
pub mod Answers
