-- A move meets the premises of the laws of ticks, claims and the help queue.
pub mod Requests
pub mod Clients
pub mod Moves
