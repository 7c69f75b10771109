pub mod Spans
pub mod Orders
pub mod Rounds
pub mod Stops
