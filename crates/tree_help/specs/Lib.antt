pub mod Helps
pub mod Updates
