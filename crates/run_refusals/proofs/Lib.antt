pub mod Records
pub mod Exhausted
