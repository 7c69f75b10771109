pub mod Forms
pub mod Judging
pub mod Writable
pub mod Runs
pub mod Loads
pub mod Sweeps
pub mod Running
