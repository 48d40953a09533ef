pub mod Opcodes
pub mod CloseCodes
