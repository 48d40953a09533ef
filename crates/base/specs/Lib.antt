pub mod Table
pub mod Bytes
pub mod Stores
pub mod Tests
