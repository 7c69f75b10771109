pub mod Numbering
pub mod Moved
pub mod Runnable
