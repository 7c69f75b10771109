pub mod Driven
pub mod InThreads
