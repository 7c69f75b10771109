pub mod Register
pub mod Meanings
