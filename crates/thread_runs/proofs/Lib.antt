pub mod Calls
pub mod Places
pub mod Gathering
pub mod Runs
pub mod Wholes
pub mod Together
