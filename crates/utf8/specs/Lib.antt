pub mod Sequences
pub mod Progress
