pub mod Comes
pub mod Kept
pub mod Journal
pub mod Fresh
