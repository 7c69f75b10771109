pub mod CommandLine
pub mod Stops
pub mod Said
pub mod Reading
pub mod Replaying
pub mod Answers
