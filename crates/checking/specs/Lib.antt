pub mod Words
pub mod Stops
pub mod Reading
pub mod Checking
