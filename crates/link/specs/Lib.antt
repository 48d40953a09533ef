pub mod System
pub mod Demand
