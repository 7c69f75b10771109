-- The accounts, kept by every move of every run.
pub mod Places
pub mod SeatSums
pub mod Allowances
pub mod Scenes
pub mod Heads
pub mod Steps
pub mod Pairs
pub mod Runs
