pub mod Held
pub mod Closing
pub mod Opening
pub mod Handles
