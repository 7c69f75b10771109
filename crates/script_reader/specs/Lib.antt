pub mod Words
pub mod WordList
pub mod Outcomes
pub mod Scripts
pub mod Schedules
pub mod Faults
