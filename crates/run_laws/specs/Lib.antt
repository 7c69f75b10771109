pub mod Seats
pub mod Files
pub mod Ticks
pub mod Reports
pub mod Claims
pub mod Premises
pub mod Drawn
