-- How many changes there were at each tick, and at the begin of each call.
pub mod Ticks
pub mod Stands
pub mod Begun
