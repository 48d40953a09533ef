pub mod Handing
pub mod LastLine
