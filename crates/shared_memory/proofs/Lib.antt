pub mod RunWords
pub mod SeatSteps
pub mod RuleKept
pub mod Opens
pub mod Joined
pub mod Closed
