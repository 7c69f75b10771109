-- What is bounded in runs: won exchanges, used blocks, and the client's places and versions.
pub mod Causes
pub mod Words
pub mod InKept
