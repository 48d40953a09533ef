pub mod Header
pub mod Close
