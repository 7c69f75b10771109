-- The lists that set a flag: whose they are, what helping them comes to, and their wrap-ups.
pub mod Flags
pub mod Journal
pub mod FollowedStays
pub mod Links
pub mod Owners
pub mod Swings
pub mod Wraps
pub mod WrapFed
