-- Who is told that no block is left, is told so where none is.
pub mod Outcomes
pub mod Helpers
pub mod Ends
pub mod Kept
