pub mod Shape
pub mod Cutting
pub mod Taking
