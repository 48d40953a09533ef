pub mod Places
pub mod Records
pub mod Listing
pub mod Steps
