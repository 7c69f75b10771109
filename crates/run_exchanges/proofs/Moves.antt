-- Whose the lists are that a move may serve.
pub mod Seats
pub mod Served
