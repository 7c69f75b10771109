-- What holds of sorted lists by their shape: their places, words and entries, and what the set holds of them.
pub mod Places
pub mod Links
pub mod Sets
pub mod Least
pub mod Runs
pub mod Entries
pub mod Opening
