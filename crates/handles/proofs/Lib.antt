pub mod Closed
pub mod Rows
pub mod Wholes
pub mod Opened
