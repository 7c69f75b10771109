pub mod Seats
pub mod Noted
pub mod Cores
pub mod Watching
pub mod Submissions
