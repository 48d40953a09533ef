pub mod Fit
pub mod Whole
